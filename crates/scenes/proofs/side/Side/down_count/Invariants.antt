use Rattle.std.proofs.Common.{◌≡◌, ◌-◌, ◌≤◌}
use Rattle.sharing61.specs.Count.{how_many}
use Rattle.scenes.specs.Scenes.{is_down_on}
use Rattle.scenes.proofs.side.Side.down_count.Given as goal

abbrev pub invariant-loop-member : goal.invariant-loop-member
invariant-loop-member l = record {
  count : l.count ≡ how_many (l.member - 1) (is_down_on l.self);
  few : l.count ≤ l.member - 1;
}
