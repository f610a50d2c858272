use Rattle.choices61.proofs.Phases.{refresh_translates}
use Rattle.choices61.proofs.laws.translated_refresh_looks_the_same.Goals as goal

pub returns : goal.returns
returns c = refresh_translates
