use Rattle.periods.proofs.Runs.{keepers_go, movers_go}
use Rattle.periods.proofs.laws.parties_go_by_the_rules.Goals as goal

pub returns-clause-refresh : goal.returns-clause-refresh
returns-clause-refresh c = keepers_go

pub returns-clause-moves : goal.returns-clause-moves
returns-clause-moves c = movers_go
