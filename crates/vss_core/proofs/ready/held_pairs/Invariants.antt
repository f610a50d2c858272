use Rattle.std.proofs.Common.{◌≡◌, map}
use Rattle.plays.specs.Said.{places}
use Rattle.plays.specs.Seat.{holds}
use Rattle.vss_core.specs.States.{own_grids}
use Rattle.vss_core.proofs.ready.held_pairs.Given as goal

abbrev pub invariant-loop-i : goal.invariant-loop-i
invariant-loop-i l = l.pairs ≡ map (holds l.setting l.me (own_grids l.own) l.rings) (places l.i)
