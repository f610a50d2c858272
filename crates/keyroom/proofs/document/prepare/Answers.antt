use Rattle.std.proofs.lemmas.Result.{err_from_is_err_and}
use Rattle.keyroom.proofs.Refusals.{from_nothing}
use Rattle.keyroom.proofs.document.prepare.Goals as goal

pub returns-in_err-check_fits-clause-cause : goal.returns-in_err-check_fits-clause-cause
returns-in_err-check_fits-clause-cause g c =
    let p = err_from_is_err_and c.from_residual-in_err-check_fits.result c.from_residual-in_err-check_fits.ensures.1 in
    rw (p.1, p.2) (c.in_err-check_fits.ensures.cause _ _)

pub returns-clause-cause : goal.returns-clause-cause
returns-clause-cause g c = from_nothing _ _ c.prepared_from.result c.prepared_from.ensures.cause
