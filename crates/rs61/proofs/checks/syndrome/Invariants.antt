use Rattle.std.proofs.Common.{◌≡◌, length}
use Rattle.checks61.specs.Checks.{syndrome_of, entry}
use Rattle.rs61.proofs.checks.syndrome.Given as goal

abbrev pub invariant-loop-row : goal.invariant-loop-row
invariant-loop-row l = l.list ≡ syndrome_of (length l.values) l.row (entry l.values)
