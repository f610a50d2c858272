use Rattle.std.proofs.Common.{sym, ◌∙◌, arith}
use Rattle.moveshare.proofs.Answering.{error_here, none_here}
use Rattle.moveshare.proofs.corrected.is_corrected.Goals as goal

pub returns-then-get-ne0 : goal.returns-then-get-ne0
returns-then-get-ne0 c =
    sym (error_here c.args.errors.now c.loop-lane.lane c.args.dealer c.get.result c.at-error.result.now c.at.result.now c.at-error.ensures c.at.ensures c.get.ensures (omega (arith, c.if-get-ne0.true)))
    ∙ c.loop-lane.invariant

pub loop-lane-preserved : goal.loop-lane-preserved
loop-lane-preserved c =
    sym (none_here c.args.errors.now c.loop-lane.lane c.args.dealer c.get.result c.at-error.result.now c.at.result.now c.at-error.ensures c.at.ensures c.get.ensures (omega (arith, c.if-get-ne0.false)))
    ∙ c.loop-lane.invariant
