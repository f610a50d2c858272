use Rattle.std.proofs.Common.{◌≡◌, ◌-◌, map}
use Rattle.plays.specs.Said.{points_up_to}
use Rattle.playback.specs.Recorded.{said_ring}
use Rattle.playback.proofs.said.said_rings.Given as goal

abbrev pub invariant-loop-to : goal.invariant-loop-to
invariant-loop-to l = l.rings ≡ map (said_ring l.said l.round l.seat) (points_up_to (l.to - 1))
