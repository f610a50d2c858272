use Rattle.histories61.proofs.Polynomials.{moves_have_errors}
use Rattle.histories61.proofs.Errors.{one_errors, one_share}
use Rattle.histories61.proofs.laws.a_move_in_a_history_has_its_errors.Goals as goal

pub returns-clause-some : goal.returns-clause-some
returns-clause-some c = moves_have_errors

pub returns-clause-one : goal.returns-clause-one
returns-clause-one c = one_errors

pub returns-clause-shares : goal.returns-clause-shares
returns-clause-shares c = one_share
