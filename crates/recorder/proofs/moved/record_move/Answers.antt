use Rattle.std.proofs.Common.{◌∙◌, length, refl, ap}
use Rattle.std.proofs.lemmas.Result.{err_from_is_err_and}
use Rattle.playback.specs.declared.phase.PhaseKind.TheVariants as kind
use Rattle.commands.specs.Phase.{standing_of}
use Rattle.scenes.specs.declared.scene.Scene.TheVariants.{Move}
use Rattle.rehearsal_laws.specs.Standing.{later_seeds}
use Rattle.recorder.proofs.Moves.{by_crew, marks_here, move_counted, move_played}
use Rattle.recorder.proofs.Ready.{seeds_anywhere}
use Rattle.recorder.proofs.Unasked.{unasked}
use Rattle.recorder.proofs.moved.record_move.Goals as goal

pub returns-in_err-run-clause-cause : goal.returns-in_err-run-clause-cause
returns-in_err-run-clause-cause g c =
    let p = err_from_is_err_and c.from_residual-in_err-run.result c.from_residual-in_err-run.ensures.1 in
    rw (p.1, p.2) (by_crew c.args.number c.args.place c.args.old c.args.new c.args.shares.now c.requires.begun.2 c.requires.sides c.requires.told (standing_of c.in_ok-asked.asked) c.deref-3.result.now _
    c.in_ok-asked.ensures.found (◌∙◌ {c = later_seeds c.args.number c.args.place c.args.old} c.deref-3.ensures.value c.in_ok-seeds.ensures) (unasked c.new-pace.result c.run_move.new.pace) _ _ c.in_err-run.field-0.0 c.in_err-run.ensures.few c.in_err-run.ensures.cause)

pub moved_said-requires-clause-marks : goal.moved_said-requires-clause-marks
moved_said-requires-clause-marks g c =
    marks_here c.args.number c.args.place c.args.old c.args.new c.args.shares.now c.requires.begun.2 c.requires.sides c.requires.told (standing_of c.in_ok-asked.asked) c.deref-3.result.now _
    c.in_ok-asked.ensures.found (◌∙◌ {c = later_seeds c.args.number c.args.place c.args.old} c.deref-3.ensures.value c.in_ok-seeds.ensures) (unasked c.new-pace.result c.run_move.new.pace)
    c.in_ok-run.run'.masks c.down_seats-down.result c.in_ok-run.ensures.left.masks c.down_seats-down.ensures.marks

pub moved_grids-requires-clause-seeds : goal.moved_grids-requires-clause-seeds
moved_grids-requires-clause-seeds g c = λ place.
    ap length (◌∙◌ {c = later_seeds c.args.number c.args.place c.args.old} c.deref-5.ensures.value c.in_ok-seeds.ensures)
    ∙ seeds_anywhere c.args.number c.args.place (Move c.args.old c.args.new) c.args.shares.now c.requires.begun.2 place

pub returns-clause-played : goal.returns-clause-played
returns-clause-played g c =
    move_played c.args.number c.args.place c.args.old c.args.new c.args.shares.now c.requires.begun.2 c.requires.sides c.requires.told (standing_of c.in_ok-asked.asked) c.deref-3.result.now _
    c.in_ok-asked.ensures.found (◌∙◌ {c = later_seeds c.args.number c.args.place c.args.old} c.deref-3.ensures.value c.in_ok-seeds.ensures) (unasked c.new-pace.result c.run_move.new.pace)
    c.in_ok-run.run'.masks (record { kind = kind.Move; setting = c.setting.result; down = c.down_seats-down.result; grids = c.in_ok-grids.grids; said = c.in_ok-said.said })
    c.in_ok-run.ensures.left.masks refl c.setting.ensures c.down_seats-down.ensures.seated c.down_seats-down.ensures.marks c.deref-4.result.now c.deref-5.result.now (◌∙◌ {c = later_seeds c.args.number c.args.place c.args.old} c.deref-4.ensures.value c.in_ok-seeds.ensures) (◌∙◌ {c = later_seeds c.args.number c.args.place c.args.old} c.deref-5.ensures.value c.in_ok-seeds.ensures)
    (c.in_ok-grids.ensures c.args.place c.in_ok-run.run'.masks) c.in_ok-said.ensures

pub returns-clause-accepted : goal.returns-clause-accepted
returns-clause-accepted g c =
    move_counted c.args.number c.args.place c.args.old c.args.new c.args.shares.now c.requires.begun.2 c.requires.sides c.requires.told (standing_of c.in_ok-asked.asked) c.deref-3.result.now _
    c.in_ok-asked.ensures.found (◌∙◌ {c = later_seeds c.args.number c.args.place c.args.old} c.deref-3.ensures.value c.in_ok-seeds.ensures) (unasked c.new-pace.result c.run_move.new.pace)
    c.in_ok-run.run'.masks (record { kind = kind.Move; setting = c.setting.result; down = c.down_seats-down.result; grids = c.in_ok-grids.grids; said = c.in_ok-said.said })
    c.in_ok-run.ensures.left.masks refl c.setting.ensures c.down_seats-down.ensures.seated c.down_seats-down.ensures.marks c.deref-4.result.now c.deref-5.result.now (◌∙◌ {c = later_seeds c.args.number c.args.place c.args.old} c.deref-4.ensures.value c.in_ok-seeds.ensures) (◌∙◌ {c = later_seeds c.args.number c.args.place c.args.old} c.deref-5.ensures.value c.in_ok-seeds.ensures)
    (c.in_ok-grids.ensures c.args.place c.in_ok-run.run'.masks) c.in_ok-said.ensures c.in_ok-run.run'.accepted c.in_ok-run.ensures.left.accepted
