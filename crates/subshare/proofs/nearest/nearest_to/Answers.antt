use Rattle.subshare.proofs.Agreement.{nearest_by_agreement}
use Rattle.subshare.proofs.nearest.nearest_to.Goals as goal

pub returns-in-Some : goal.returns-in-Some
returns-in-Some c = nearest_by_agreement c.args.degree c.args.values.now c.in-Some.poly (rw c.in-Some.is at c.in_ok-agreed.ensures)
