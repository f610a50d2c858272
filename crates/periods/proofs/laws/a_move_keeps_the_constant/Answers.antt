use Rattle.periods.proofs.Moving.{one_lane_error, move_keeps, error_is_difference}
use Rattle.periods.proofs.laws.a_move_keeps_the_constant.Goals as goal

pub returns-clause-one : goal.returns-clause-one
returns-clause-one c = one_lane_error

pub returns-clause-keeps : goal.returns-clause-keeps
returns-clause-keeps c = move_keeps

pub returns-clause-only : goal.returns-clause-only
returns-clause-only c = error_is_difference
