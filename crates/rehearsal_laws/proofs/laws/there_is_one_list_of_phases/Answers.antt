use Rattle.rehearsal_laws.proofs.One.{one_phases}
use Rattle.rehearsal_laws.proofs.laws.there_is_one_list_of_phases.Goals as goal

pub returns : goal.returns
returns c = one_phases
