use Rattle.std.proofs.Common.{◌≡◌, ◌≤◌, ◌-◌}
use Rattle.std.specs.List.{filter, range_with_len}
use Rattle.talk.specs.Sync.{has}
use Rattle.commands.proofs.moving.members_in.Given as goal

abbrev pub invariant-loop-member : goal.invariant-loop-member
invariant-loop-member l = record {
  low : 1 ≤ l.member;
  so_far : l.members ≡ filter (has l.mask) (range_with_len 1 (l.member - 1));
}
