use Rattle.std.proofs.Common.{◌≡◌, ◌-◌, take}
use Rattle.choices61.specs.Sets.{over_y}
use Rattle.phaseshift.proofs.vanishing.over_y.Given as goal

abbrev pub invariant-loop-k : goal.invariant-loop-k
invariant-loop-k l = l.higher ≡ take (l.k - 1) (over_y l.p.coeffs)
