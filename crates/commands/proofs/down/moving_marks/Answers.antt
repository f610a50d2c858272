use Rattle.std.proofs.Common.{◌+◌, length, arith}
use Rattle.drillbook.specs.Orders.{names}
use Rattle.keyroom.specs.Sound.{is_down_in_move}
use Rattle.commands.proofs.Marks.{marks_none, marks_more, marks_all}
use Rattle.commands.proofs.down.moving_marks.Goals as goal

pub loop-seat-init : goal.loop-seat-init
loop-seat-init c = rw c.new-marks.ensures.items (record { low = omega arith; so_far = marks_none (is_down_in_move (names c.args.drill.now) c.args.files.now) })

pub loop-seat-preserved : goal.loop-seat-preserved
loop-seat-preserved c = record {
  low = omega arith;
  so_far = marks_more (is_down_in_move (names c.args.drill.now) c.args.files.now) _ _ c.loop-seat.seat _ c.loop-seat.invariant.low c.loop-seat.invariant.so_far c.in_ok-push.ensures.items c.is_down_in_move.ensures;
}

pub returns : goal.returns
returns c = marks_all (is_down_in_move (names c.args.drill.now) c.args.files.now) _ c.loop-seat.seat (length c.args.files.now + c.args.count) (omega (arith, c.loop-seat-test.false, c.loop-seat.auto.seat-end)) c.loop-seat.invariant.so_far
