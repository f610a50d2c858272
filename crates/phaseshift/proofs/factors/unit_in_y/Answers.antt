use Rattle.std.proofs.lemmas.Result.{IfOk-weaker}
use Rattle.phaseshift.proofs.Multiples.{gap_for}
use Rattle.phaseshift.proofs.factors.unit_in_y.Goals as goal

pub returns-in_ok-from-in-Refresh : goal.returns-in_ok-from-in-Refresh
returns-in_ok-from-in-Refresh c =
    IfOk-weaker c.gap_over_y.result _ _
    (λ p e. gap_for c.args.phase.now.kind c.args.phase.now.setting c.args.before c.args.after c.receivers.result c.dealers.result c.in_ok-to.to c.in_ok-from-in-Refresh.from p c.in-Refresh.is
    c.receivers.ensures.is c.dealers.ensures.is c.in_ok-to.ensures c.in_ok-from-in-Refresh.ensures e)
    c.gap_over_y.ensures
