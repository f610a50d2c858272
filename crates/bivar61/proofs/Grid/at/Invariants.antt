use Rattle.std.proofs.Common.{◌≡◌, ◌≤◌, length, drop}
use Rattle.algebra61.specs.Grid.{grid_at}
use Rattle.bivar61.proofs.Grid.at.Given as goal

abbrev pub invariant-loop-power : goal.invariant-loop-power
invariant-loop-power l = (l.power ≤ length l.self-inside.rows.items) × (l.value ≡ grid_at (drop l.power l.self-inside.rows.items) l.x l.y)

abbrev pub decreases-loop-power : goal.decreases-loop-power
decreases-loop-power l = l.power
