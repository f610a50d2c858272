use Rattle.std.proofs.Common.{◌≡◌, ◌++◌, drop}
use Rattle.algebra61.specs.Field.{zeroₚ}
use Rattle.poly61.proofs.Lagrange.{weights_to}
use Rattle.poly61.proofs.weights.weights_at_zero.Given as goal

abbrev pub invariant-loop-x : goal.invariant-loop-x
invariant-loop-x l = l.weights ++ weights_to l.xs (drop l.x-index l.xs) zeroₚ ≡ weights_to l.xs l.xs zeroₚ
