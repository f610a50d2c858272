use Rattle.std.proofs.Common.{◌≡◌, ◌≤◌, ◌+◌, ◌-◌}
use Rattle.sharing61.specs.Count.{how_many}
use Rattle.commands.specs.Phase.{marked}
use Rattle.commands.proofs.lateness.left_of.Given as goal

abbrev pub invariant-loop-member : goal.invariant-loop-member
invariant-loop-member l = record {
  low : 1 ≤ l.member;
  counted : l.left + how_many (l.member - 1) (marked l.down) ≡ l.member - 1;
}
