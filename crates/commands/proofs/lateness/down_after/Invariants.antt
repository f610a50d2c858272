use Rattle.std.proofs.Common.{◌≡◌, ◌≤◌, ◌-◌}
use Rattle.commands.specs.Late.{down_after}
use Rattle.commands.specs.Phase.{marked, marks_of}
use Rattle.commands.proofs.lateness.down_after.Given as goal

abbrev pub invariant-loop-seat : goal.invariant-loop-seat
invariant-loop-seat l = record {
  low : 1 ≤ l.seat;
  so_far : l.marks.items ≡ marks_of (down_after (marked l.before) l.masks) (l.seat - 1);
}
