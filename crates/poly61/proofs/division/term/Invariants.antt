use Rattle.std.proofs.Common.{◌≡◌, replicate}
use Rattle.algebra61.specs.Field.{zeroₚ}
use Rattle.poly61.proofs.division.term.Given as goal

abbrev pub invariant-loop : goal.invariant-loop
invariant-loop l = l.coeffs ≡ replicate l.counter zeroₚ
