use Rattle.std.proofs.Common.{◌≡◌, ◌≤◌, ◌-◌, ◌++◌, map}
use Rattle.std.specs.List.{range_with_len}
use Rattle.keyroom.specs.Changes.{changes_of}
use Rattle.commands.specs.Period.{removal}
use Rattle.commands.proofs.changes.push_removals.Given as goal

abbrev pub invariant-loop-index : goal.invariant-loop-index
invariant-loop-index l = record {
  low : 1 ≤ l.index;
  pushed : changes_of l.changes.items ≡ changes_of l.fn.changes.items ++ map (removal l.name l.period) (range_with_len 1 (l.index - 1));
}
