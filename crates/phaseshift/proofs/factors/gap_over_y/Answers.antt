use Rattle.std.proofs.lemmas.Result.{IfOk-weaker}
use Rattle.phaseshift.proofs.Multiples.{gap_made}
use Rattle.phaseshift.proofs.factors.gap_over_y.Goals as goal

pub returns : goal.returns
returns c =
    IfOk-weaker c.over_y.result _ _
    (λ p e. gap_made c.args.to.now c.args.from.now c.in_ok-negative.negative c.in_ok-gap.gap p c.neg.result c.neg.ensures c.in_ok-negative.ensures c.in_ok-gap.ensures e)
    c.over_y.ensures
