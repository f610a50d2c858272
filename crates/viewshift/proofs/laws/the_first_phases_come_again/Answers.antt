use Rattle.viewshift.proofs.Back.{phases_come_again}
use Rattle.viewshift.proofs.laws.the_first_phases_come_again.Goals as goal

pub returns : goal.returns
returns c = phases_come_again
