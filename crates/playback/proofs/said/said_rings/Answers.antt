use Rattle.std.proofs.Common.{arith}
use Rattle.playback.specs.Recorded.{said_ring}
use Rattle.playback.proofs.Places.{points_map_step}
use Rattle.playback.proofs.said.said_rings.Goals as goal

pub loop-to-preserved : goal.loop-to-preserved
loop-to-preserved c =
    points_map_step (said_ring c.args.said.now c.args.round c.args.seat) c.loop-to.to c.loop-to.rings _ _ (omega arith) c.loop-to.invariant c.in_ok-push.ensures c.in_ok-said_ring.ensures
