use Rattle.std.proofs.Common.{arith}
use Rattle.commands.specs.Late.{down_after}
use Rattle.commands.specs.Phase.{marked}
use Rattle.commands.proofs.Marks.{marks_more}
use Rattle.commands.proofs.lateness.down_after.Goals as goal

pub loop-seat-preserved : goal.loop-seat-preserved
loop-seat-preserved c = record {
  low = omega arith;
  so_far = marks_more (down_after (marked c.args.before.now) c.as_slice-masks.result.now) _ _ c.loop-seat.seat _ c.loop-seat.invariant.low c.loop-seat.invariant.so_far c.in_ok-push.ensures.items c.is_down_after.ensures;
}
