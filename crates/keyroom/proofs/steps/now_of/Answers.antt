use Rattle.keyroom.proofs.Refusals.{from_nothing}
use Rattle.keyroom.proofs.steps.now_of.Goals as goal

pub returns-clause-cause : goal.returns-clause-cause
returns-clause-cause g c = from_nothing _ _ c.now_from.result c.now_from.ensures.cause
