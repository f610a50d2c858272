use Rattle.std.proofs.Common.{◌≡◌, map}
use Rattle.plays.specs.Said.{places}
use Rattle.plays.specs.Seat.{heard_accepted}
use Rattle.vss_core.proofs.revealed.all_accepted.Given as goal

abbrev pub invariant-loop-i : goal.invariant-loop-i
invariant-loop-i l = l.accepted ≡ map (heard_accepted l.setting l.posts) (places l.i)
