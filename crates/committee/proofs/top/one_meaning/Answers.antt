use Rattle.committee.proofs.OneMeaning.{one_meaning as law}
use Rattle.committee.proofs.top.one_meaning.Goals as goal

pub returns : goal.returns
returns c = law
