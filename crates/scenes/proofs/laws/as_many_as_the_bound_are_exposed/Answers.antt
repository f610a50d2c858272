use Rattle.scenes.proofs.Filling.{are_exposed}
use Rattle.scenes.proofs.laws.as_many_as_the_bound_are_exposed.Goals as goal

pub returns : goal.returns
returns c = are_exposed
