use Rattle.std.proofs.Common.{◌≡◌, ◌≤◌, length, drop}
use Rattle.algebra61.specs.Poly.{coeff}
use Rattle.algebra61.specs.Grid.{column}
use Rattle.bivar61.proofs.Grid.column_coeff.Given as goal

abbrev pub invariant-loop-a : goal.invariant-loop-a
invariant-loop-a l = (l.a ≤ length l.self-inside.rows.items) × (l.value ≡ coeff (column (drop l.a l.self-inside.rows.items) l.x) l.b)

abbrev pub decreases-loop-a : goal.decreases-loop-a
decreases-loop-a l = l.a
