-- A refresh in which nobody was cut, and the record of its play.
use Rattle.std.proofs.Common.{◌≡◌, ℕ, ◌<◌, List, Option, refl, sym, ap₂, ◌∙◌, subst, arith}
use Rattle.algebra61.specs.Field.{Fp}
use Rattle.sharing61.specs.Count.{how_many}
use Rattle.sharing61.proofs.Count.{how_many_same}
use Rattle.talk.specs.Sync.{nobody}
use Rattle.plays.specs.Play.{Play}
use Rattle.plays.specs.Law.{IsPlay}
use Rattle.members.specs.Shares.{accepted_count}
use Rattle.playback.specs.declared.phase.SaidItem.{SaidItem}
use Rattle.playback.specs.declared.phase.Phase.{Phase}
use Rattle.playback.specs.Recorded.{play_of}
use Rattle.hearsay.specs.Said.{said_in}
use Rattle.commands.specs.Phase.{IsRefreshPhase}
use Rattle.commands.specs.Refresh.{play_refreshed}
use Rattle.commands.specs.Standing.{Standing}
use Rattle.commands.specs.declared.phase.Phase.{Phase as Run}
use Rattle.scenes.specs.declared.side.Side.{Side}
use Rattle.scenes.specs.declared.scene.Scene.TheVariants.{Refresh}
use Rattle.scenes.specs.Law.{AreSides}
use Rattle.scenes.specs.Lawful.{AreOrders}
use Rattle.rehearsal_laws.specs.Down.{down_on}
use Rattle.rehearsal_laws.specs.Played.{AreUncut, IsPlayed, play_under}
use Rattle.rehearsal_laws.specs.Standing.{later_seeds, standing_before}
use Rattle.rehearsal_laws.proofs.Downs.{few_beginners}
use Rattle.rehearsal_laws.proofs.Fitting.{side_committee}
use Rattle.rehearsal_laws.proofs.Refreshed.{refresh_down, refresh_is_play}
use Rattle.recorder.specs.Begun.{HaveShares}
use Rattle.recorder.proofs.Recording.{AreDown, IsReadOff, as_many, record_made}

-- what the members found and drew is of the phase
module _ (number place : ℕ) (side : Side) (shares : List (Option (List Fp))) (found : Standing) (here : found ≡ standing_before place (Refresh side) shares) (seeds : List (List ℕ)) (drawn : seeds ≡ later_seeds number place side) where
  pub refresh_here : (cuts : ℕ → ℕ) (run : Run) → IsRefreshPhase found seeds cuts run → IsRefreshPhase (standing_before place (Refresh side) shares) (later_seeds number place side) cuts run
  refresh_here cuts run is =
      subst (λ (st : Standing). IsRefreshPhase st (later_seeds number place side) cuts run) here (subst (λ (them : List (List ℕ)). IsRefreshPhase found them cuts run) drawn is)

  pub refresh_said : (masks : List ℕ) (said : List SaidItem) → said ≡ said_in (play_refreshed found seeds masks) → said ≡ said_in (play_under number place (Refresh side) shares masks)
  refresh_said masks said is = is ∙ ap₂ (λ (st : Standing) (them : List (List ℕ)). said_in (play_refreshed st them masks)) here drawn

-- what holds of the play, with these shares
record IsRefreshed (number place : ℕ) (side : Side) (masks : List ℕ) (shares : List (Option (List Fp))) : Type 0 where
  is_play : IsPlay (play_under number place (Refresh side) shares masks)
  downs : AreDown (Refresh side) (play_under number place (Refresh side) shares masks).down

-- a run of the phase, under cuts of nobody
module _ (number place : ℕ) (side : Side) (shares : List (Option (List Fp))) (sides : AreSides (Refresh side)) (told : AreOrders (Refresh side)) (have : HaveShares side shares) (cuts : ℕ → ℕ) (none : cuts ≡ nobody)
    (run : Run) (is : IsRefreshPhase (standing_before place (Refresh side) shares) (later_seeds number place side) cuts run) where
  abbrev play : Play
  play = play_under number place (Refresh side) shares run.masks

  uncut : AreUncut number place (Refresh side) shares run.masks
  uncut = (subst (λ (them : ℕ → ℕ). IsRefreshPhase (standing_before place (Refresh side) shares) (later_seeds number place side) them run) none is).0

  is_refreshed : IsRefreshed number place side run.masks shares
  is_refreshed =
      subst (λ (given : List (Option (List Fp))). AreUncut number place (Refresh side) given run.masks → IsRefreshed number place side run.masks given) (sym have.1)
      (λ given. record { is_play = refresh_is_play number place side have.0 sides told run.masks given; downs = refresh_down number place side have.0 sides told run.masks given }) uncut

  pub refresh_downs : AreDown (Refresh side) (play_under number place (Refresh side) shares run.masks).down
  refresh_downs = is_refreshed.downs

  few : how_many side.members play.down < side.members
  few =
      omega (
        arith,
        how_many_same side.members play.down (down_on (Refresh side)) (λ seat from to. refresh_downs seat from (omega (arith, to))),
        few_beginners (Refresh side) tt sides,
        (side_committee side sides.0).third,
      )

  module _ (phase : Phase) (read : IsReadOff (Refresh side) (play_under number place (Refresh side) shares run.masks) phase) where
    pub refresh_played : IsPlayed number place (Refresh side) shares phase
    refresh_played = record { masks = run.masks; uncut = uncut; record_is = record_made (Refresh side) play phase is_refreshed.is_play refl refresh_downs read }

    pub refresh_counted : run.accepted ≡ accepted_count (play_of phase)
    refresh_counted = is.1.accepted few ∙ sym (as_many (Refresh side) play phase is_refreshed.is_play refl refresh_downs read)
