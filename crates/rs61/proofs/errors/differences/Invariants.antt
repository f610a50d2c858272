use Rattle.std.proofs.Common.{◌≡◌}
use Rattle.checks61.specs.Checks.{difference_from, entry}
use Rattle.rs61.proofs.errors.differences.Given as goal

abbrev pub invariant-loop-k : goal.invariant-loop-k
invariant-loop-k l = l.list ≡ difference_from l.k (entry l.word) l.poly.coeffs
