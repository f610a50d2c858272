use Rattle.std.proofs.Common.{ap, ◌∙◌}
use Rattle.algebra61.specs.Field.{fe}
use Rattle.rs61.proofs.ErrorLoops.{product_not_zero}
use Rattle.rs61.proofs.checks.check_entry.Goals as goal

pub inverse-requires : goal.inverse-requires
inverse-requires c =
    product_not_zero c.args.points c.args.point c.reduce-x.result c.others_product.result c.requires.0 c.requires.1 (c.reduce-x.ensures ∙ ap fe c.from.ensures) c.others_product.ensures
