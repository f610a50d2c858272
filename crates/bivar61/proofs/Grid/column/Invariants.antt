use Rattle.std.proofs.Common.{◌≡◌, take}
use Rattle.algebra61.specs.Grid.{column}
use Rattle.bivar61.proofs.Grid.column.Given as goal

abbrev pub invariant-loop-b : goal.invariant-loop-b
invariant-loop-b l = l.coefficients ≡ take l.b (column l.self l.point)
