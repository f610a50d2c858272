use Rattle.std.proofs.Common.{◌≡◌, ◌++◌, drop}
use Rattle.algebra61.specs.Grid.{row}
use Rattle.bivar61.proofs.Grid.row.Given as goal

abbrev pub invariant-loop-coefficients : goal.invariant-loop-coefficients
invariant-loop-coefficients l = l.values ++ row (drop l.coefficients-index l.self) l.point ≡ row l.self l.point
