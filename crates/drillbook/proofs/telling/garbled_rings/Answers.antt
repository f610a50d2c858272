use Rattle.std.proofs.Common.{rules}
use Rattle.drillbook.proofs.Lists.{garbled_step}
use Rattle.drillbook.proofs.telling.garbled_rings.Goals as goal

pub loop-place-preserved : goal.loop-place-preserved
loop-place-preserved c =
    garbled_step c.loop-place.place c.args.seat c.saturating_sub-own.result _ _ _ c.loop-place.invariant (search rules) c.garbled_ring.ensures c.in_ok-push.ensures
