use Rattle.std.proofs.Common.{arith}
use Rattle.commands.specs.Phase.{marked}
use Rattle.commands.proofs.MovingMinds.{come_more, done_more}
use Rattle.commands.proofs.moving_phase.outs_of.Goals as goal

pub loop-mind-preserved : goal.loop-mind-preserved
loop-mind-preserved g c = record {
  at = omega (arith, c.loop-mind.invariant.at);
  done = done_more (marked c.args.down.now) c.args.minds.now c.loop-mind.mind-index c.loop-mind.member c.mind-item.result c.loop-mind-test.true c.mind-item.is c.loop-mind.invariant.done;
  so_far = come_more (marked c.args.down.now) c.args.minds.now c.loop-mind.mind-index c.loop-mind.member c.mind-item.result c.loop-mind.outs.items c.push.new.self.items _
      c.loop-mind-test.true c.loop-mind.invariant.at c.mind-item.is c.loop-mind.invariant.so_far c.in_ok-out_of.ensures (c.in_ok-push.ensures.items);
}
