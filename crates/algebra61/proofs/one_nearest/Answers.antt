use Rattle.algebra61.proofs.NearestLemmas.{nearest_once}
use Rattle.algebra61.proofs.one_nearest.Goals as goal

pub returns : goal.returns
returns c = nearest_once
