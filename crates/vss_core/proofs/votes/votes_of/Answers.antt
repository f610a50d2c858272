use Rattle.std.proofs.Common.{List, ◌∙◌, ap}
use Rattle.lists.proofs.Places.{at_or}
use Rattle.sharing61.specs.Rules.{Pair, zero_pair, votes_yes}
use Rattle.talk.specs.declared.messages.Post.{Post}
use Rattle.plays.specs.Seat.{says_yes, heard_complaint, heard_shown}
use Rattle.vss_core.proofs.Steps.{mapped_step}
use Rattle.vss_core.proofs.votes.votes_of.Goals as goal

pub loop-i-preserved : goal.loop-i-preserved
loop-i-preserved c =
    mapped_step (says_yes c.args.setting.now c.args.me c.args.pairs.now c.args.third.now c.args.fourth.now) c.loop-i.i c.loop-i.votes _ _ c.loop-i.invariant c.in_ok-push.ensures
    (c.in_ok-vote_on.ensures
    ∙ ap (λ (third : List Post). votes_yes c.args.setting.now.receivers (heard_complaint c.args.setting.now third c.loop-i.i) (heard_shown c.args.fourth.now c.loop-i.i) c.args.me c.at.result.now) c.in_ok-complaints.ensures
    ∙ ap (λ (p : Pair). votes_yes c.args.setting.now.receivers (heard_complaint c.args.setting.now c.args.third.now c.loop-i.i) (heard_shown c.args.fourth.now c.loop-i.i) c.args.me p) (at_or c.args.pairs.now c.loop-i.i zero_pair c.at.result.now c.at.ensures))
