use Rattle.commands.proofs.Kept.{refreshes_keep_the_key as law}
use Rattle.commands.proofs.laws.a_refresh_keeps_the_key.Goals as goal

pub returns : goal.returns
returns c = law
