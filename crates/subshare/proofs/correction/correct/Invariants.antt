use Rattle.std.proofs.Common.{◌≡◌}
use Rattle.algebra61.specs.Field.{◌-ₚ◌, ◌*ₚ◌}
use Rattle.checks61.specs.Checks.{sum_to, entry}
use Rattle.subshare.proofs.correction.correct.Given as goal

abbrev pub invariant-loop-k : goal.invariant-loop-k
invariant-loop-k l = l.sum ≡ sum_to l.k (λ i. entry l.weights i *ₚ (entry l.shares i -ₚ entry l.errors i))
