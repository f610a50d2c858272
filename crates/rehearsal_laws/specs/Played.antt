-- A phase of a rehearsal is the record of a play: that of the command of its kind, with the drawn orders and seeds, in which
-- nobody is cut.
use Rattle.std.specs.Prelude.{ℕ, List, Option}
use Rattle.algebra61.specs.Field.{Fp}
use Rattle.talk.specs.Sync.{nobody}
use Rattle.plays.specs.Play.{Play}
use Rattle.playback.specs.declared.phase.PhaseKind.{PhaseKind}
use Rattle.playback.specs.declared.phase.PhaseKind.TheVariants as kind
use Rattle.playback.specs.declared.phase.Phase.{Phase}
use Rattle.hearsay.specs.Record.{IsRecordOf}
use Rattle.commands.specs.Create.{AreCreateMasks, play_created}
use Rattle.commands.specs.Refresh.{AreRefreshMasks, play_refreshed}
use Rattle.commands.specs.Move.{AreMoveMasks, play_moved}
use Rattle.scenes.specs.declared.scene.Scene.{Scene}
use Rattle.scenes.specs.declared.scene.Scene.TheVariants.{Create, Refresh, Move}
use Rattle.scenes.specs.Orders.{orders_of}
use Rattle.rehearsal_laws.specs.Standing.{standing_before, first_seeds, later_seeds}

-- a later phase is no create
abbrev pub IsLater : Scene → Type 0
IsLater (Create side) = ⊥
IsLater (Refresh side) = Unit {0}
IsLater (Move old new) = Unit {0}

-- the kind of a phase
abbrev pub kind_in : Scene → PhaseKind
kind_in (Create side) = kind.Create
kind_in (Refresh side) = kind.Refresh
kind_in (Move old new) = kind.Move

-- the masks are ones that the words of the members allow, of whom nobody is cut. A phase with this number of the rehearsal
-- from a number is played, before which the members have these shares
abbrev pub AreUncut : ℕ → ℕ → Scene → List (Option (List Fp)) → List ℕ → Type 0
AreUncut number place (Create side) shares =
    AreCreateMasks side.members side.bound (orders_of (Create side)) (first_seeds number side.members) nobody
AreUncut number place (Refresh side) shares =
    AreRefreshMasks (standing_before place (Refresh side) shares) (later_seeds number place side) nobody
AreUncut number place (Move old new) shares =
    AreMoveMasks (standing_before place (Move old new) shares) new.members new.bound (later_seeds number place old) nobody

-- the play of the phase under these masks
abbrev pub play_under : ℕ → ℕ → Scene → List (Option (List Fp)) → List ℕ → Play
play_under number place (Create side) shares =
    play_created side.members side.bound (orders_of (Create side)) (first_seeds number side.members)
play_under number place (Refresh side) shares =
    play_refreshed (standing_before place (Refresh side) shares) (later_seeds number place side)
play_under number place (Move old new) shares =
    play_moved (standing_before place (Move old new) shares) new.members new.bound (later_seeds number place old)

-- the phase is the record of such a play
pub record IsPlayed (number place : ℕ) (scene : Scene) (shares : List (Option (List Fp))) (phase : Phase) : Type 0 where
  pub masks : List ℕ
  pub uncut : AreUncut number place scene shares masks
  pub record_is : IsRecordOf (kind_in scene) (play_under number place scene shares masks) phase
