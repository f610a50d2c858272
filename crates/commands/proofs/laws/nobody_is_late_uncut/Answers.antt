use Rattle.commands.proofs.Uncut.{uncut_creates_are_done, uncut_refreshes_are_done}
use Rattle.commands.proofs.laws.nobody_is_late_uncut.Goals as goal

pub returns-clause-create : goal.returns-clause-create
returns-clause-create c = uncut_creates_are_done

pub returns-clause-refresh : goal.returns-clause-refresh
returns-clause-refresh c = uncut_refreshes_are_done
