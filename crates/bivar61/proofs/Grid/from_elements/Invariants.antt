use Rattle.std.proofs.Common.{◌≡◌}
use Rattle.bivar61.specs.Grids.{rows_of}
use Rattle.bivar61.proofs.Grid.from_elements.Given as goal

abbrev pub invariant-loop-a : goal.invariant-loop-a
invariant-loop-a l = l.rows.items ≡ rows_of l.width l.a l.c
