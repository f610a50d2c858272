use Rattle.std.proofs.Common.{zero, arith}
use Rattle.playback.specs.Recorded.{play_of}
use Rattle.playback.specs.Playing.{seat_after}
use Rattle.playback.proofs.Places.{points_map_step}
use Rattle.playback.proofs.seats.begin.Goals as goal

pub loop-seat-preserved : goal.loop-seat-preserved
loop-seat-preserved c =
    points_map_step (seat_after (play_of c.args.phase.now) zero) c.loop-seat.seat c.loop-seat.list.items _ _ (omega arith) c.loop-seat.invariant c.in_ok-push.ensures.items c.in_ok-fresh.ensures
