use Rattle.std.proofs.Common.{length, ap, ◌∙◌}
use Rattle.algebra61.specs.Field.{fe}
use Rattle.checks61.specs.Checks.{others_product}
use Rattle.rs61.proofs.ErrorLoops.{word_value}
use Rattle.rs61.proofs.errors.word_entry.Goals as goal

pub returns : goal.returns
returns c =
    word_value c.args.points (length c.args.syndrome.now) c.args.point c.args.syndrome.now c.in_ok-basis.basis c.others_product.result c.dot.result c.mul.result
    c.if-rows-point.false c.in_ok-basis.ensures (c.others_product.ensures ∙ ap (others_product c.args.points c.args.point) (c.reduce-x.ensures ∙ ap fe c.from.ensures)) c.dot.ensures c.mul.ensures
