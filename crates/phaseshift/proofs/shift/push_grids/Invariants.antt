use Rattle.std.proofs.Common.{◌≡◌, ◌++◌, map, get_or}
use Rattle.algebra61.specs.Field.{zeroₚ}
use Rattle.plays.specs.Said.{places}
use Rattle.phaseshift.specs.Factors.{grid_with}
use Rattle.phaseshift.proofs.shift.push_grids.Given as goal

abbrev pub invariant-loop-lane : goal.invariant-loop-lane
invariant-loop-lane l = l.grids ≡ l.initial.grids ++ map (grid_with l.phase l.factors (λ lane. get_or l.difference lane zeroₚ) l.dealer) (places l.lane)
