use Rattle.std.proofs.Common.{◌≡◌, ◌+◌, length, ap, ◌∙◌, arith}
use Rattle.checks61.specs.Word.{word_entry}
use Rattle.rs61.proofs.ErrorLoops.{more_from, word_is}
use Rattle.rs61.proofs.errors.word.Goals as goal

pub loop-k-preserved : goal.loop-k-preserved
loop-k-preserved c =
    let f = word_entry c.args.points (length c.args.syndrome.now) c.args.syndrome.now in
    let e : c.loop-k.k + 1 ≡ 1 + c.loop-k.k = omega arith in
    more_from f 1 c.loop-k.k c.loop-k.list c.push.new.self c.in_ok-word_entry.field-0 c.loop-k.invariant c.in_ok-push.ensures (c.in_ok-word_entry.ensures ∙ ap f e)

pub returns : goal.returns
returns c =
    let all : c.loop-k.k ≡ c.args.points = omega (arith, c.loop-k.auto.k-end, c.loop-k-test.false) in
    word_is c.args.points c.loop-k.k c.args.syndrome.now c.loop-k.list c.requires.few c.requires.short all c.loop-k.invariant
