use Rattle.talk.specs.Shape.{instances}
use Rattle.vss_core.proofs.Steps.{mapped_length}
use Rattle.vss_core.proofs.revealed.Revealed.hear_votes.Goals as goal

pub made-requires-clause-kept : goal.made-requires-clause-kept
made-requires-clause-kept c = mapped_length _ (instances c.self.inside.setting) _ c.in-Ok-kept_pairs.ensures

pub made-requires-clause-accepted : goal.made-requires-clause-accepted
made-requires-clause-accepted c = mapped_length _ (instances c.self.inside.setting) _ c.in-Ok.ensures
