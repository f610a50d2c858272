use Rattle.std.proofs.Common.{◌∙◌, ap}
use Rattle.lists.proofs.Places.{at_or}
use Rattle.sharing61.specs.Rules.{Pair, zero_pair, kept_of}
use Rattle.plays.specs.Seat.{keeps, heard_accepted, heard_shown}
use Rattle.vss_core.proofs.Steps.{mapped_step}
use Rattle.vss_core.proofs.revealed.kept_pairs.Goals as goal

pub loop-i-preserved : goal.loop-i-preserved
loop-i-preserved c =
    mapped_step (keeps c.args.setting.now c.args.me c.args.pairs.now c.args.fourth.now c.args.fifth.now) c.loop-i.i c.loop-i.kept _ _ c.loop-i.invariant c.in_ok-push.ensures
    (c.in_ok-kept_pair.ensures
    ∙ ap (λ (p : Pair). kept_of (heard_accepted c.args.setting.now c.args.fifth.now c.loop-i.i) (heard_shown c.args.fourth.now c.loop-i.i c.args.me) p) (at_or c.args.pairs.now c.loop-i.i zero_pair c.at.result.now c.at.ensures))
