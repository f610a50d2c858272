use Rattle.talk.specs.Shape.{instances}
use Rattle.vss_core.proofs.Steps.{mapped_length}
use Rattle.vss_core.proofs.ready.Ready.hear_deals.Goals as goal

pub made-requires-clause-pairs : goal.made-requires-clause-pairs
made-requires-clause-pairs c = mapped_length _ (instances c.self.inside.setting) _ c.in-Ok.ensures
