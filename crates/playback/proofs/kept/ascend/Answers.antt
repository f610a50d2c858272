use Rattle.std.proofs.Common.{arith, sym, ◌∙◌}
use Rattle.playback.specs.Kept.{item_before}
use Rattle.playback.proofs.Ascent.{ascend_step, ascend_end}
use Rattle.playback.proofs.kept.ascend.Goals as goal

pub loop-place-preserved : goal.loop-place-preserved
loop-place-preserved c =
    ascend_step item_before c.args.said.now c.loop-place.place c.index-said-place.result c.index-said-place-in-loop-place.result _ (omega arith) (omega arith)
    c.index-said-place.is c.index-said-place-in-loop-place.is (sym c.comes_before.ensures ∙ c.if-not-comes_before.false) c.loop-place.invariant

pub returns : goal.returns
returns c = ascend_end item_before c.args.said.now c.loop-place.place _ (omega arith) (omega arith) c.loop-place.invariant
