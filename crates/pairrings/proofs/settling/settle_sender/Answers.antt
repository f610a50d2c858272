use Rattle.std.proofs.Common.{below_more}
use Rattle.pairrings.specs.Records.{IsInOrder}
use Rattle.pairrings.proofs.RingLemmas.{ends_then, order_same}
use Rattle.pairrings.proofs.settling.settle_sender.Goals as goal

pub loop-to-preserved : goal.loop-to-preserved
loop-to-preserved g c = (
  ends_then _ _ _ c.loop-to.invariant.0 c.settle_pair.ensures.same,
  below_more (λ j. IsInOrder c.args.ends.now c.args.from j) c.loop-to.to c.loop-to.invariant.1
      (order_same _ _ _ _ c.loop-to.invariant.0 c.settle_pair.ensures.order),
)
