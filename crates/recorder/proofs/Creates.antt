-- A create in which nobody was cut, and the record of its play.
use Rattle.std.proofs.Common.{◌≡◌, ℕ, ◌<◌, List, [], Option, refl, sym, ◌∙◌, subst, arith}
use Rattle.algebra61.specs.Field.{Fp}
use Rattle.sharing61.specs.Count.{how_many}
use Rattle.sharing61.proofs.Count.{how_many_more}
use Rattle.talk.specs.Sync.{nobody}
use Rattle.plays.specs.Play.{Play}
use Rattle.plays.specs.Law.{IsPlay}
use Rattle.members.specs.Shares.{accepted_count}
use Rattle.playback.specs.declared.phase.Phase.{Phase}
use Rattle.playback.specs.Recorded.{play_of}
use Rattle.commands.specs.Phase.{IsCreatePhase}
use Rattle.commands.specs.declared.phase.Phase.{Phase as Run}
use Rattle.scenes.specs.declared.side.Side.{Side}
use Rattle.scenes.specs.declared.scene.Scene.TheVariants.{Create}
use Rattle.scenes.specs.Law.{AreSides}
use Rattle.scenes.specs.Lawful.{AreOrders}
use Rattle.scenes.specs.Orders.{orders_of}
use Rattle.scenes.specs.Scenes.{is_down_on}
use Rattle.rehearsal_laws.specs.Played.{AreUncut, IsPlayed, play_under}
use Rattle.rehearsal_laws.specs.Standing.{first_seeds}
use Rattle.rehearsal_laws.proofs.Created.{create_down, create_is_play}
use Rattle.rehearsal_laws.proofs.Downs.{drilled_down}
use Rattle.rehearsal_laws.proofs.Fitting.{side_committee}
use Rattle.recorder.proofs.Recording.{AreDown, IsReadOff, as_many, record_made}

-- a run of the phase, under cuts of nobody
module _ (number : ℕ) (side : Side) (sides : AreSides (Create side)) (told : AreOrders (Create side)) (cuts : ℕ → ℕ) (none : cuts ≡ nobody)
    (run : Run) (is : IsCreatePhase side.members side.bound (orders_of (Create side)) (first_seeds number side.members) cuts run) where
  abbrev play : Play
  play = play_under number 0 (Create side) [] run.masks

  uncut : AreUncut number 0 (Create side) [] run.masks
  uncut = (subst (λ (them : ℕ → ℕ). IsCreatePhase side.members side.bound (orders_of (Create side)) (first_seeds number side.members) them run) none is).0

  pub create_downs : AreDown (Create side) (play_under number 0 (Create side) [] run.masks).down
  create_downs = create_down number 0 side [] sides told run.masks uncut

  is_play : IsPlay play
  is_play = create_is_play number 0 side [] sides told run.masks uncut

  few : how_many side.members play.down < side.members
  few =
      omega (
        arith,
        how_many_more side.members play.down (is_down_on side) (λ seat from to e. drilled_down side seat (sym (create_downs seat from (omega (arith, to))) ∙ e)),
        sides.0.few,
        (side_committee side sides.0).third,
      )

  module _ (phase : Phase) (read : IsReadOff (Create side) (play_under number 0 (Create side) [] run.masks) phase) where
    -- a create depends on no shares, and on no place in the rehearsal
    pub create_played : (place : ℕ) (shares : List (Option (List Fp))) → IsPlayed number place (Create side) shares phase
    create_played place shares = record { masks = run.masks; uncut = uncut; record_is = record_made (Create side) play phase is_play refl create_downs read }

    pub create_counted : run.accepted ≡ accepted_count (play_of phase)
    create_counted = is.1.accepted few ∙ sym (as_many (Create side) play phase is_play refl create_downs read)
