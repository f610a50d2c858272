use Rattle.commands.proofs.Kept.{refreshes_by_one as law}
use Rattle.commands.proofs.laws.a_refresh_adds_shares_of_zero.Goals as goal

pub returns : goal.returns
returns c = law
