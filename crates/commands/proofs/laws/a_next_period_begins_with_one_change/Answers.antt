use Rattle.commands.proofs.Beginning.{periods_go_on as law}
use Rattle.commands.proofs.laws.a_next_period_begins_with_one_change.Goals as goal

pub returns : goal.returns
returns c = law
