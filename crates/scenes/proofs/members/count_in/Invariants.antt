use Rattle.std.proofs.Common.{◌≡◌, ◌-◌, ◌≤◌}
use Rattle.sharing61.specs.Count.{how_many}
use Rattle.talk.specs.Sync.{has}
use Rattle.scenes.proofs.members.count_in.Given as goal

abbrev pub invariant-loop-member : goal.invariant-loop-member
invariant-loop-member l = record {
  count : l.count ≡ how_many (l.member - 1) (has l.mask);
  few : l.count ≤ l.member - 1;
}
