use Rattle.std.proofs.Common.{◌≡◌}
use Rattle.algebra61.specs.Field.{◌*ₚ◌}
use Rattle.checks61.specs.Checks.{sum_to, check_entry, entry}
use Rattle.rs61.proofs.checks.check_value.Given as goal

abbrev pub invariant-loop-k : goal.invariant-loop-k
invariant-loop-k l = l.sum ≡ sum_to l.k (λ i. check_entry l.points l.row i *ₚ entry l.values i)
