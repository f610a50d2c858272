use Rattle.std.proofs.Common.{◌≡◌, ◌≤◌, ◌-◌}
use Rattle.drillbook.specs.Orders.{names}
use Rattle.commands.specs.Phase.{marks_of}
use Rattle.commands.proofs.down.drilled_marks.Given as goal

abbrev pub invariant-loop-seat : goal.invariant-loop-seat
invariant-loop-seat l = record {
  low : 1 ≤ l.seat;
  so_far : l.marks.items ≡ marks_of (names l.drill) (l.seat - 1);
}
