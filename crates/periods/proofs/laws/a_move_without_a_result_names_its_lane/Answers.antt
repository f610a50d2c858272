use Rattle.periods.proofs.Moving.{none_within, one_without_result, result_or_none}
use Rattle.periods.proofs.laws.a_move_without_a_result_names_its_lane.Goals as goal

pub returns-clause-far : goal.returns-clause-far
returns-clause-far c = none_within

pub returns-clause-one : goal.returns-clause-one
returns-clause-one c = one_without_result

pub returns-clause-apart : goal.returns-clause-apart
returns-clause-apart c = result_or_none
