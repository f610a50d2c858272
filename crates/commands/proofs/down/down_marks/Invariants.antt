use Rattle.std.proofs.Common.{◌≡◌, ◌≤◌, ◌-◌}
use Rattle.drillbook.specs.Orders.{names}
use Rattle.keyroom.specs.Sound.{is_down}
use Rattle.commands.specs.Phase.{marks_of}
use Rattle.commands.proofs.down.down_marks.Given as goal

abbrev pub invariant-loop-seat : goal.invariant-loop-seat
invariant-loop-seat l = record {
  low : 1 ≤ l.seat;
  so_far : l.marks.items ≡ marks_of (is_down (names l.drill) l.files) (l.seat - 1);
}
