use Rattle.periods.proofs.Opening.{place_polynomial, opened_is, one_opened}
use Rattle.periods.proofs.laws.no_opening_fails.Goals as goal

pub returns-clause-polynomial : goal.returns-clause-polynomial
returns-clause-polynomial c = place_polynomial

pub returns-clause-opened : goal.returns-clause-opened
returns-clause-opened c = opened_is

pub returns-clause-one : goal.returns-clause-one
returns-clause-one c = one_opened
