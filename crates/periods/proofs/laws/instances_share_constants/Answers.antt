use Rattle.periods.proofs.Polynomials.{has_constant, one_constant, honest_constant}
use Rattle.periods.proofs.laws.instances_share_constants.Goals as goal

pub returns-clause-some : goal.returns-clause-some
returns-clause-some c = has_constant

pub returns-clause-one : goal.returns-clause-one
returns-clause-one c = one_constant

pub returns-clause-honest : goal.returns-clause-honest
returns-clause-honest c = honest_constant
