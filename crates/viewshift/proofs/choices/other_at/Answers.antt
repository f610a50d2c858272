use Rattle.std.proofs.Common.{get_or, sym, subst}
use Rattle.std.proofs.lemmas.Result.{IfOk-weaker}
use Rattle.algebra61.specs.Field.{zeroₚ}
use Rattle.playback.specs.Kept.{IsKept}
use Rattle.viewshift.proofs.Standing.{phase_is}
use Rattle.viewshift.proofs.Choosing.{room_for, other_is}
use Rattle.viewshift.proofs.choices.other_at.Goals as goal

pub other_phase-requires-clause-kept : goal.other_phase-requires-clause-kept
other_phase-requires-clause-kept c =
    subst IsKept (sym (phase_is c.args.phases.now c.args.place c.at.result.now c.at.ensures)) (c.requires.history.phases_fit.1 c.args.place c.requires.place).kept

pub other_phase-requires-clause-room : goal.other_phase-requires-clause-room
other_phase-requires-clause-room c =
    room_for c.args.phases.now c.args.exposed.now c.args.place c.saturating_sub.result c.mask_at-before.result c.mask_at-after.result c.at.result.now c.requires.history c.requires.place
    (phase_is c.args.phases.now c.args.place c.at.result.now c.at.ensures) c.saturating_sub.ensures c.mask_at-before.ensures c.mask_at-after.ensures

pub returns : goal.returns
returns c =
    IfOk-weaker c.other_phase.result _ _
    (λ q e. other_is c.args.phases.now c.args.exposed.now (λ lane. get_or c.args.difference.now lane zeroₚ) c.args.place c.saturating_sub.result c.mask_at-before.result c.mask_at-after.result c.at.result.now q
    (phase_is c.args.phases.now c.args.place c.at.result.now c.at.ensures) c.saturating_sub.ensures c.mask_at-before.ensures c.mask_at-after.ensures e) c.other_phase.ensures
