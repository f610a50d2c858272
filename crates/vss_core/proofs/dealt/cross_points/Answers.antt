use Rattle.std.proofs.Common.{◌≡◌, ap, ◌∙◌}
use Rattle.lists.proofs.Places.{at_or}
use Rattle.sharing61.specs.Rules.{Pair, zero_pair, at_point}
use Rattle.sharing61.specs.declared.Crossing.{Crossing}
use Rattle.plays.specs.Seat.{pair_at}
use Rattle.plays.proofs.Lists.{cross_step}
use Rattle.vss_core.proofs.dealt.cross_points.Goals as goal

pub loop-i-preserved : goal.loop-i-preserved
loop-i-preserved c =
    let own : c.at-own.result ≡ at_point (pair_at c.args.pairs.now c.loop-i.i) c.args.receiver =
    c.at-own.ensures ∙ ap (λ (p : Pair). at_point p c.args.receiver) (at_or c.args.pairs.now c.loop-i.i zero_pair c.at.result.now c.at.ensures) in
    cross_step c.loop-i.i (λ i. at_point (pair_at c.args.pairs.now i) c.args.receiver) c.loop-i.list _ _ _ _ c.loop-i.invariant c.in_ok-push.ensures c.in_ok-push-2.ensures
    (ap (λ (t : Crossing). t.row) own) (ap (λ (t : Crossing). t.column) own)
