use Rattle.commands.proofs.Creating.{creates_on_one_line as law}
use Rattle.commands.proofs.laws.created_share_files_lie_on_one_polynomial.Goals as goal

pub returns : goal.returns
returns c = law
