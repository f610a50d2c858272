use Rattle.std.proofs.Common.{◌-◌}
use Rattle.lists.proofs.Places.{at_or}
use Rattle.talk.specs.declared.messages.Ring.TheVariants.{Nothing}
use Rattle.vss_core.proofs.Steps.{dealt_premise}
use Rattle.vss_core.proofs.ready.held_pair.Goals as goal

pub dealt_pair-requires-clause-long : goal.dealt_pair-requires-clause-long
dealt_pair-requires-clause-long c = dealt_premise c.args.setting.now _ _ _ c.args.rings.now _ c.requires.rings.read c.degree.ensures.is (at_or c.args.rings.now (c.of-instance.result.dealer - 1) Nothing c.at-ring.result.now c.at-ring.ensures)
