use Rattle.paces.specs.Picks.{IsMissing}
use Rattle.paces.proofs.Picking.{picked_none, picked_next}
use Rattle.paces.proofs.missing.missing_in.Goals as goal

pub loop-place-init : goal.loop-place-init
loop-place-init c = picked_none (IsMissing c.args.word)

pub loop-place-preserved : goal.loop-place-preserved
loop-place-preserved c =
    picked_next (IsMissing c.args.word) c.loop-place.place c.loop-place.missing c.with_place-missing.result c.is_missing.result c.is_missing.ensures c.with_place-missing.ensures.yes c.with_place-missing.ensures.not c.loop-place.invariant
