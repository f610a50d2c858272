use Rattle.std.proofs.Common.{arith}
use Rattle.drillbook.specs.Orders.{names}
use Rattle.commands.proofs.Marks.{marks_none, marks_more, marks_all}
use Rattle.commands.proofs.down.drilled_marks.Goals as goal

pub loop-seat-init : goal.loop-seat-init
loop-seat-init c = rw c.new-marks.ensures.items (record { low = omega arith; so_far = marks_none (names c.args.drill.now) })

pub loop-seat-preserved : goal.loop-seat-preserved
loop-seat-preserved c = record {
  low = omega arith;
  so_far = marks_more (names c.args.drill.now) _ _ c.loop-seat.seat _ c.loop-seat.invariant.low c.loop-seat.invariant.so_far c.in_ok-push.ensures.items c.names.ensures;
}

pub returns : goal.returns
returns c = marks_all (names c.args.drill.now) _ c.loop-seat.seat c.args.n (omega (arith, c.loop-seat-test.false, c.loop-seat.auto.seat-end)) c.loop-seat.invariant.so_far
