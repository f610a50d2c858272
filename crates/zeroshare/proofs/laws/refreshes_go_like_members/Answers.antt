use Rattle.periods.proofs.Runs.{keepers_go}
use Rattle.zeroshare.proofs.laws.refreshes_go_like_members.Goals as goal

pub returns : goal.returns
returns g c = keepers_go
