use Rattle.std.proofs.Common.{ℕ, ◌∙◌, ap, is_none}
use Rattle.sharing61.specs.Count.{everyone}
use Rattle.sharing61.specs.Rules.{fits}
use Rattle.plays.specs.Read.{shown_in}
use Rattle.vss_core.proofs.Steps.{vote_parts}
use Rattle.vss_core.proofs.votes.vote_by.Goals as goal

pub returns-then-fit : goal.returns-then-fit
returns-then-fit c =
    vote_parts _ _ _ c.is_hidden-hidden.result c.in_ok-fit.fit c.in_ok-settled.settled
    (c.is_hidden-hidden.ensures ∙ ap (λ (lane : ℕ). is_none (shown_in lane c.args.me c.args.reveals.now)) c.of-lane.ensures.lane)
    (c.in_ok-fit.ensures ∙ ap (λ (lane : ℕ). everyone c.args.setting.now.receivers (λ k. fits c.args.me c.args.pair.now k (shown_in lane k c.args.reveals.now))) c.of-lane.ensures.lane)
    c.in_ok-settled.ensures c.if-hidden.true c.if-fit.true
