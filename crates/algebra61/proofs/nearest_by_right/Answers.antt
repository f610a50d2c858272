use Rattle.algebra61.proofs.NearestLemmas.{nearest_by_right}
use Rattle.algebra61.proofs.nearest_by_right.Goals as goal

pub returns : goal.returns
returns c = nearest_by_right
