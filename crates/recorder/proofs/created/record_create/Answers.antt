use Rattle.std.proofs.Common.{[], refl}
use Rattle.scenes.specs.declared.scene.Scene.TheVariants.{Create}
use Rattle.rehearsal_laws.specs.Played.{play_under}
use Rattle.recorder.proofs.Creates.{create_counted, create_downs, create_played}
use Rattle.recorder.proofs.Recording.{marks_down}
use Rattle.recorder.proofs.Unasked.{unasked}
use Rattle.recorder.proofs.created.record_create.Goals as goal

pub created_said-requires-clause-marks : goal.created_said-requires-clause-marks
created_said-requires-clause-marks g c =
    let side = c.args.side in
    let masks = c.in_ok-run.run'.masks in
    let is = rw (c.in_ok-drill.ensures, c.deref-2.ensures.value, c.in_ok-seeds.ensures) at c.in_ok-run.ensures.left in
    rw c.in_ok-drill.ensures (marks_down (Create side) c.down_seats-down.result (play_under c.args.number 0 (Create side) [] masks).down c.down_seats-down.ensures.marks
    (create_downs c.args.number side c.requires.sides c.requires.told _ (unasked c.new-pace.result c.run_create.new.pace) c.in_ok-run.run' is))

pub returns-clause-played : goal.returns-clause-played
returns-clause-played g c =
    let masks = c.in_ok-run.run'.masks in
    let is = rw (c.in_ok-drill.ensures, c.deref-2.ensures.value, c.in_ok-seeds.ensures) at c.in_ok-run.ensures.left in
    create_played c.args.number c.args.side c.requires.sides c.requires.told _ (unasked c.new-pace.result c.run_create.new.pace) c.in_ok-run.run' is _
    (record {
      kind = refl;
      setting = c.setting.ensures;
      seated = c.down_seats-down.ensures.seated;
      marks = c.down_seats-down.ensures.marks;
      grids = rw (c.deref-4.ensures.value, c.in_ok-seeds.ensures) at c.in_ok-grids.ensures masks;
      said = rw (c.in_ok-drill.ensures, c.deref-3.ensures.value, c.in_ok-seeds.ensures) at c.in_ok-said.ensures;
    })

pub returns-clause-accepted : goal.returns-clause-accepted
returns-clause-accepted g c =
    let masks = c.in_ok-run.run'.masks in
    let is = rw (c.in_ok-drill.ensures, c.deref-2.ensures.value, c.in_ok-seeds.ensures) at c.in_ok-run.ensures.left in
    create_counted c.args.number c.args.side c.requires.sides c.requires.told _ (unasked c.new-pace.result c.run_create.new.pace) c.in_ok-run.run' is _
    (record {
      kind = refl;
      setting = c.setting.ensures;
      seated = c.down_seats-down.ensures.seated;
      marks = c.down_seats-down.ensures.marks;
      grids = rw (c.deref-4.ensures.value, c.in_ok-seeds.ensures) at c.in_ok-grids.ensures masks;
      said = rw (c.in_ok-drill.ensures, c.deref-3.ensures.value, c.in_ok-seeds.ensures) at c.in_ok-said.ensures;
    })
