use Rattle.std.proofs.Common.{◌-◌}
use Rattle.lists.proofs.Places.{at_or}
use Rattle.talk.specs.declared.messages.Ring.TheVariants.{Nothing}
use Rattle.vss_core.proofs.Steps.{cross_premise}
use Rattle.vss_core.proofs.crossed.crossing_of.Goals as goal

pub crossing-requires-clause-long : goal.crossing-requires-clause-long
crossing-requires-clause-long c = cross_premise c.args.setting.now _ _ _ c.args.rings.now _ c.requires.rings.read c.instances.ensures.is (at_or c.args.rings.now (c.seat_of.result - 1) Nothing c.at-ring.result.now c.at-ring.ensures)
