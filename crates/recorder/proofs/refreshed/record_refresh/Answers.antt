use Rattle.std.proofs.Common.{length, refl, sym, ap, ◌∙◌, subst}
use Rattle.playback.specs.declared.phase.Phase.{Phase}
use Rattle.playback.specs.declared.phase.PhaseKind.TheVariants as kind
use Rattle.hearsay.specs.Said.{Marks}
use Rattle.commands.specs.Late.{down_after}
use Rattle.commands.specs.Phase.{standing_of}
use Rattle.commands.specs.Refresh.{setting_of}
use Rattle.commands.specs.Standing.{Standing, down_in}
use Rattle.scenes.specs.declared.scene.Scene.TheVariants.{Refresh}
use Rattle.rehearsal_laws.specs.Played.{play_under}
use Rattle.rehearsal_laws.specs.Standing.{standing_before}
use Rattle.recorder.proofs.Ready.{seeds_anywhere}
use Rattle.recorder.proofs.Recording.{IsReadOff, marks_down}
use Rattle.recorder.proofs.Refreshes.{refresh_counted, refresh_downs, refresh_here, refresh_played, refresh_said}
use Rattle.recorder.proofs.Unasked.{unasked}
use Rattle.recorder.proofs.refreshed.record_refresh.Given.{Over}
use Rattle.recorder.proofs.refreshed.record_refresh.Goals as goal

pub refreshed_said-requires-clause-marks : goal.refreshed_said-requires-clause-marks
refreshed_said-requires-clause-marks g c =
    let side = c.args.side in
    let run = c.in_ok-run.run' in
    let is =
    refresh_here c.args.number c.args.place side c.args.shares.now (standing_of c.in_ok-asked.asked) c.in_ok-asked.ensures.found c.deref-3.result.now (c.deref-3.ensures.value ∙ c.in_ok-seeds.ensures) _ run c.in_ok-run.ensures.left in
    subst (λ (st : Standing). Marks (setting_of st) c.down_seats-down.result (down_after (down_in st) run.masks)) {x = standing_before c.args.place (Refresh c.args.side) c.args.shares.now} (sym c.in_ok-asked.ensures.found)
    (marks_down (Refresh side) c.down_seats-down.result (play_under c.args.number c.args.place (Refresh side) c.args.shares.now run.masks).down c.down_seats-down.ensures.marks
    (refresh_downs c.args.number c.args.place side c.args.shares.now c.requires.sides c.requires.told c.requires.begun.2 _ (unasked c.new-pace.result c.run_refresh.new.pace) run is))

pub refreshed_grids-requires-clause-seeds : goal.refreshed_grids-requires-clause-seeds
refreshed_grids-requires-clause-seeds g c other =
    ap length (c.deref-5.ensures.value ∙ c.in_ok-seeds.ensures) ∙ seeds_anywhere c.args.number c.args.place (Refresh c.args.side) c.args.shares.now c.requires.begun.2 other

-- the phase that is answered
abbrev phase : (g : Over) → goal.After-drop-asked-3 g → Phase
phase g c = record { kind = kind.Refresh; setting = c.setting.result; down = c.down_seats-down.result; grids = c.in_ok-grids.grids; said = c.in_ok-said.said }

read : (g : Over) (c : goal.After-drop-asked-3 g) → IsReadOff (Refresh c.args.side) (play_under c.args.number c.args.place (Refresh c.args.side) c.args.shares.now c.in_ok-run.run'.masks) (phase g c)
read g c = record {
  kind = refl;
  setting = c.setting.ensures;
  seated = c.down_seats-down.ensures.seated;
  marks = c.down_seats-down.ensures.marks;
  grids = rw (c.deref-5.ensures.value, c.in_ok-seeds.ensures) at c.in_ok-grids.ensures c.args.place c.in_ok-run.run'.masks;
  said =
      refresh_said c.args.number c.args.place c.args.side c.args.shares.now (standing_of c.in_ok-asked.asked) c.in_ok-asked.ensures.found c.deref-4.result.now (c.deref-4.ensures.value ∙ c.in_ok-seeds.ensures) c.in_ok-run.run'.masks c.in_ok-said.said
      c.in_ok-said.ensures;
}

pub returns-clause-played : goal.returns-clause-played
returns-clause-played g c =
    let run = c.in_ok-run.run' in
    let is =
    refresh_here c.args.number c.args.place c.args.side c.args.shares.now (standing_of c.in_ok-asked.asked) c.in_ok-asked.ensures.found c.deref-3.result.now (c.deref-3.ensures.value ∙ c.in_ok-seeds.ensures) _ run c.in_ok-run.ensures.left in
    refresh_played c.args.number c.args.place c.args.side c.args.shares.now c.requires.sides c.requires.told c.requires.begun.2 _ (unasked c.new-pace.result c.run_refresh.new.pace) run is (phase g c) (read g c)

pub returns-clause-accepted : goal.returns-clause-accepted
returns-clause-accepted g c =
    let run = c.in_ok-run.run' in
    let is =
    refresh_here c.args.number c.args.place c.args.side c.args.shares.now (standing_of c.in_ok-asked.asked) c.in_ok-asked.ensures.found c.deref-3.result.now (c.deref-3.ensures.value ∙ c.in_ok-seeds.ensures) _ run c.in_ok-run.ensures.left in
    refresh_counted c.args.number c.args.place c.args.side c.args.shares.now c.requires.sides c.requires.told c.requires.begun.2 _ (unasked c.new-pace.result c.run_refresh.new.pace) run is (phase g c) (read g c)
