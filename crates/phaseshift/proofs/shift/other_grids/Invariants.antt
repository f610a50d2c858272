use Rattle.std.proofs.Common.{◌≡◌, ◌-◌, get_or}
use Rattle.std.specs.List.{flat_map}
use Rattle.algebra61.specs.Field.{zeroₚ}
use Rattle.plays.specs.Said.{points_up_to}
use Rattle.phaseshift.specs.Factors.{dealer_with}
use Rattle.phaseshift.proofs.shift.other_grids.Given as goal

abbrev pub invariant-loop-dealer : goal.invariant-loop-dealer
invariant-loop-dealer l = l.grids ≡ flat_map (dealer_with l.phase l.factors (λ lane. get_or l.difference lane zeroₚ)) (points_up_to (l.dealer - 1))
