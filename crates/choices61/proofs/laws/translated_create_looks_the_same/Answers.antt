use Rattle.choices61.proofs.Phases.{create_translates}
use Rattle.choices61.proofs.laws.translated_create_looks_the_same.Goals as goal

pub returns : goal.returns
returns c = create_translates
