use Rattle.std.proofs.Common.{arith}
use Rattle.lists.proofs.Places.{at_or}
use Rattle.playbill.proofs.Lines.{phase_written}
use Rattle.playbill.proofs.phase.put_phases.Goals as goal

pub loop-place-preserved : goal.loop-place-preserved
loop-place-preserved c =
    phase_written c.args.scenes.now c.args.accepted.now c.loop-place.place _ _ _ _ (omega arith) (omega (arith, c.requires.counts)) c.loop-place.invariant
    (rw (at_or c.args.accepted.now c.loop-place.place 0 c.at.result.now c.at.ensures) at c.in_ok-put_phase.ensures)
