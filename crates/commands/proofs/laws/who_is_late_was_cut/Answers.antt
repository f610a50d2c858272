use Rattle.commands.proofs.Uncut.{late_in_create, late_in_refresh}
use Rattle.commands.proofs.laws.who_is_late_was_cut.Goals as goal

pub returns-clause-create : goal.returns-clause-create
returns-clause-create c = late_in_create

pub returns-clause-refresh : goal.returns-clause-refresh
returns-clause-refresh c = late_in_refresh
