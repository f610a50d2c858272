use Rattle.paces.specs.Picks.{IsScripted}
use Rattle.paces.proofs.Picking.{picked_none, picked_next}
use Rattle.paces.proofs.script_pace.scripted.Goals as goal

pub loop-place-init : goal.loop-place-init
loop-place-init c = picked_none (IsScripted c.args.list.now c.args.round c.args.missing)

pub loop-place-preserved : goal.loop-place-preserved
loop-place-preserved c =
    picked_next (IsScripted c.args.list.now c.args.round c.args.missing) c.loop-place.place c.loop-place.answer c.with_place-answer.result c.is_scripted.result c.is_scripted.ensures c.with_place-answer.ensures.yes c.with_place-answer.ensures.not c.loop-place.invariant
