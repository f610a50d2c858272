use Rattle.std.proofs.Common.{◌≡◌, ◌+◌, ◌++◌, drop}
use Rattle.commands.specs.Phase.{indexes_of}
use Rattle.commands.proofs.changes.indexes_of.Given as goal

abbrev pub invariant-loop-lanes : goal.invariant-loop-lanes
invariant-loop-lanes l = record {
  at : l.index ≡ l.lanes-index + 1;
  so_far : l.indexes ++ indexes_of l.index (drop l.lanes-index l.shares) ≡ indexes_of 1 l.shares;
}
