use Rattle.histories61.proofs.Making.{phases_fit_together}
use Rattle.histories61.proofs.laws.phases_that_fit_make_a_history.Goals as goal

pub returns : goal.returns
returns c = phases_fit_together
