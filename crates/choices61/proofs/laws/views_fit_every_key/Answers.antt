use Rattle.choices61.proofs.Other.{views_fit_every_difference, views_fit_every_key}
use Rattle.choices61.proofs.laws.views_fit_every_key.Goals as goal

pub returns-clause-other : goal.returns-clause-other
returns-clause-other c = views_fit_every_difference

pub returns-clause-wished : goal.returns-clause-wished
returns-clause-wished c = views_fit_every_key
