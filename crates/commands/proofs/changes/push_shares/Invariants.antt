use Rattle.std.proofs.Common.{◌≡◌, ◌+◌, ◌++◌, drop}
use Rattle.keyroom.specs.Changes.{changes_of}
use Rattle.commands.specs.Phase.{puts_of}
use Rattle.commands.proofs.changes.push_shares.Given as goal

abbrev pub invariant-loop-lanes : goal.invariant-loop-lanes
invariant-loop-lanes l = record {
  at : l.index ≡ l.lanes-index + 1;
  so_far : changes_of l.changes.items ++ puts_of l.now l.index (drop l.lanes-index l.shares) ≡ changes_of l.fn.changes.items ++ puts_of l.now 1 l.shares;
}
