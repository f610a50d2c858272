use Rattle.std.proofs.Common.{◌+◌, is_none}
use Rattle.plays.specs.Read.{shown_in}
use Rattle.vss_core.proofs.Steps.{mapped_step}
use Rattle.vss_core.proofs.votes.all_hidden.Goals as goal

pub loop-k-preserved : goal.loop-k-preserved
loop-k-preserved c =
    mapped_step (λ k. is_none (shown_in c.args.lane (k + 1) c.args.reveals.now)) c.loop-k.k c.loop-k.hidden.items _ _ c.loop-k.invariant c.in_ok-push.ensures.items c.is_hidden.ensures
