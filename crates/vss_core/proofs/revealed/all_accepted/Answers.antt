use Rattle.plays.specs.Seat.{heard_accepted}
use Rattle.vss_core.proofs.Steps.{mapped_step}
use Rattle.vss_core.proofs.revealed.all_accepted.Goals as goal

pub loop-i-preserved : goal.loop-i-preserved
loop-i-preserved c =
    mapped_step (heard_accepted c.args.setting.now c.args.posts.now) c.loop-i.i c.loop-i.accepted _ _ c.loop-i.invariant c.in_ok-push.ensures c.is_accepted.ensures
