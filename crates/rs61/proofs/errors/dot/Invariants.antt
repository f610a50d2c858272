use Rattle.std.proofs.Common.{◌≡◌}
use Rattle.checks61.specs.Word.{dot_to}
use Rattle.rs61.proofs.errors.dot.Given as goal

abbrev pub invariant-loop-k : goal.invariant-loop-k
invariant-loop-k l = l.sum ≡ dot_to l.k l.poly.coeffs l.values
