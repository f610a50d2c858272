use Rattle.plays.specs.Seat.{holds}
use Rattle.vss_core.specs.States.{own_grids}
use Rattle.vss_core.proofs.Steps.{mapped_step}
use Rattle.vss_core.proofs.ready.held_pairs.Goals as goal

pub loop-i-preserved : goal.loop-i-preserved
loop-i-preserved c =
    mapped_step (holds c.args.setting.now c.args.me (own_grids c.args.own) c.args.rings.now) c.loop-i.i c.loop-i.pairs _ _ c.loop-i.invariant c.in_ok-push.ensures c.in_ok-held_pair.ensures
