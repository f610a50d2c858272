use Rattle.histories61.proofs.Polynomials.{history_has_key, phases_have_key, one_polynomial, one_key, key_stays}
use Rattle.histories61.proofs.laws.a_history_has_one_key.Goals as goal

pub returns-clause-history : goal.returns-clause-history
returns-clause-history c = history_has_key

pub returns-clause-phases : goal.returns-clause-phases
returns-clause-phases c = phases_have_key

pub returns-clause-polynomial : goal.returns-clause-polynomial
returns-clause-polynomial c = one_polynomial

pub returns-clause-one : goal.returns-clause-one
returns-clause-one c = one_key

pub returns-clause-stays : goal.returns-clause-stays
returns-clause-stays c = key_stays
