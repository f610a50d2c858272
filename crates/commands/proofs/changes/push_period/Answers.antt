use Rattle.commands.proofs.Pushing.{pushed_period}
use Rattle.commands.proofs.changes.push_period.Goals as goal

pub returns : goal.returns
returns c = pushed_period _ _ _ _ _ c.args.now.now c.args.shares.now c.now.view_is c.in_ok-push_removals.ensures c.in_ok-push_shares.ensures c.in_ok-push_now.ensures
