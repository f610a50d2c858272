use Rattle.std.proofs.Common.{◌≡◌, ◌-◌, zero, map}
use Rattle.plays.specs.Said.{points_up_to}
use Rattle.playback.specs.Recorded.{play_of}
use Rattle.playback.specs.Playing.{seat_after}
use Rattle.playback.proofs.seats.begin.Given as goal

abbrev pub invariant-loop-seat : goal.invariant-loop-seat
invariant-loop-seat l = l.list.items ≡ map (seat_after (play_of l.phase) zero) (points_up_to (l.seat - 1))
