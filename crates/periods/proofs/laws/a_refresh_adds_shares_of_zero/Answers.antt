use Rattle.periods.proofs.Refreshing.{refreshed_by_one, refresh_keeps}
use Rattle.periods.proofs.laws.a_refresh_adds_shares_of_zero.Goals as goal

pub returns-clause-one : goal.returns-clause-one
returns-clause-one c = refreshed_by_one

pub returns-clause-keeps : goal.returns-clause-keeps
returns-clause-keeps c = refresh_keeps
