use Rattle.std.proofs.lemmas.Result.{err_from_is_err_and}
use Rattle.commands.proofs.standing.standing_at.Goals as goal

pub returns-in_err-_period-clause-cause : goal.returns-in_err-_period-clause-cause
returns-in_err-_period-clause-cause g c =
    let p = err_from_is_err_and c.from_residual-in_err-_period.result c.from_residual-in_err-_period.ensures.1 in
    rw (p.1, p.2) (c.in_err-_period.ensures.cause _ _)
