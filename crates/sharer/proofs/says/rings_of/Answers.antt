use Rattle.std.proofs.Common.{arith}
use Rattle.plays.specs.Stage.{stage_ring}
use Rattle.sharer.specs.View.{grids_of, stage_of}
use Rattle.sharer.proofs.Words.{rings_step}
use Rattle.sharer.proofs.says.rings_of.Goals as goal

pub loop-to-preserved : goal.loop-to-preserved
loop-to-preserved c =
    rings_step (stage_ring c.args.place.now.setting c.args.place.now.seat (grids_of c.args.place.now.dealer) (stage_of c.args.at.now)) c.loop-to.to c.loop-to.rings _ _
    (omega arith) c.loop-to.invariant c.in_ok-push.ensures c.in_ok-ring_for.ensures
