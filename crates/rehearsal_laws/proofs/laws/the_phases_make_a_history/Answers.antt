use Rattle.rehearsal_laws.proofs.History.{phases_make_history}
use Rattle.rehearsal_laws.proofs.laws.the_phases_make_a_history.Goals as goal

pub returns : goal.returns
returns c = phases_make_history
