use Rattle.rehearsal_laws.proofs.Rehearsals.{one_rehearsal, one_others}
use Rattle.rehearsal_laws.proofs.laws.there_is_one_rehearsal.Goals as goal

pub returns-clause-rehearsal : goal.returns-clause-rehearsal
returns-clause-rehearsal c = one_rehearsal

pub returns-clause-others : goal.returns-clause-others
returns-clause-others c = one_others
