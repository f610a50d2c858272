use Rattle.std.proofs.Common.{◌≡◌, ℕ, ◌+◌, ◌∙◌, ap, subst, Bool, List, is_none, length, map}
use Rattle.sharing61.specs.Count.{everyone}
use Rattle.sizes.specs.Instances.{lane_of}
use Rattle.plays.specs.Read.{shown_in}
use Rattle.plays.specs.Said.{places}
use Rattle.vss_core.specs.Complaints.{settled_here}
use Rattle.vss_core.proofs.Settled.{all_settled_is}
use Rattle.vss_core.proofs.Steps.{mapped_length}
use Rattle.vss_core.proofs.votes.all_settled.Goals as goal

pub each_two_settled-requires-clause-hidden : goal.each_two_settled-requires-clause-hidden
each_two_settled-requires-clause-hidden c =
    ap (λ (h : List Bool). length h) c.as_slice.ensures.value
    ∙ mapped_length (λ k. is_none (shown_in c.of.result.lane (k + 1) c.args.reveals.now)) c.args.setting.now.receivers c.in_ok-hidden.hidden.items c.in_ok-hidden.ensures

pub returns : goal.returns
returns c =
    let hidden : c.in_ok-hidden.hidden.items ≡ map (λ k. is_none (shown_in (lane_of c.args.index) (k + 1) c.args.reveals.now)) (places c.args.setting.now.receivers) =
    subst (λ (lane : ℕ). c.in_ok-hidden.hidden.items ≡ map (λ k. is_none (shown_in lane (k + 1) c.args.reveals.now)) (places c.args.setting.now.receivers)) c.of.ensures.lane c.in_ok-hidden.ensures in
    c.each_two_settled.ensures
    ∙ ap (λ (h : List Bool). everyone c.args.setting.now.receivers (λ k. everyone k (settled_here c.args.setting.now c.args.third.now h c.args.index k))) c.as_slice.ensures.value
    ∙ all_settled_is c.args.setting.now c.args.third.now c.args.index c.args.setting.now.receivers (λ k. shown_in (lane_of c.args.index) k c.args.reveals.now) c.in_ok-hidden.hidden.items hidden
