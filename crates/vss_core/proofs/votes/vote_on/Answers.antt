use Rattle.std.proofs.Common.{◌≡◌, ℕ, ◌-◌, ◌∙◌, ap}
use Rattle.lists.proofs.Places.{at_or}
use Rattle.sharing61.specs.Rules.{votes_yes}
use Rattle.talk.specs.declared.messages.Post.{Post}
use Rattle.talk.specs.declared.messages.Post.TheVariants.{Quiet}
use Rattle.sizes.specs.Instances.{dealer_of, lane_of}
use Rattle.plays.specs.Read.{shown_in}
use Rattle.plays.specs.Seat.{post_at, heard_complaint}
use Rattle.vss_core.proofs.votes.vote_on.Goals as goal

pub returns : goal.returns
returns c =
    let post : c.at-reveals.result.now ≡ post_at c.args.fourth.now (dealer_of c.args.index) =
    at_or c.args.fourth.now (c.of-instance.result.dealer - 1) Quiet c.at-reveals.result.now c.at-reveals.ensures
    ∙ ap (λ (k : ℕ). post_at c.args.fourth.now k) c.of-instance.ensures.dealer in
    c.in_ok-vote.ensures
    ∙ ap (λ (r : Post). votes_yes c.args.setting.now.receivers (heard_complaint c.args.setting.now c.args.third.now c.args.index) (λ j. shown_in (lane_of c.args.index) j r) c.args.me c.args.pair.now) post
