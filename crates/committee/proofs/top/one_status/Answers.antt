use Rattle.committee.proofs.OneMeaning.{one_status as law}
use Rattle.committee.proofs.top.one_status.Goals as goal

pub returns : goal.returns
returns c = law
