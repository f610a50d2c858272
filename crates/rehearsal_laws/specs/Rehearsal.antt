-- A rehearsal: its phases one after another, who is exposed in its periods, and its other choices.
use Rattle.std.specs.Prelude.{◌≡◌, ℕ, zero, suc, ◌+◌, ◌<◌, List, [], length, map, get_or, Option}
use Rattle.algebra61.specs.Field.{Fp, zeroₚ, oneₚ, ◌+ₚ◌}
use Rattle.talk.specs.Basics.{places}
use Rattle.talk.specs.Sync.{has}
use Rattle.members.specs.Shares.{accepted_count}
use Rattle.histories61.specs.Phases.{Moved}
use Rattle.histories61.specs.Course.{Course, HasErrors, share_after_phase}
use Rattle.playback.specs.declared.phase.Phase.{Phase}
use Rattle.playback.specs.Recorded.{play_of}
use Rattle.viewshift.specs.Key.{HasKey}
use Rattle.viewshift.specs.Kept.{HistoryValue}
use Rattle.viewshift.specs.Listed.{course_of, phase_at}
use Rattle.viewshift.specs.Others.{IsTranslation, meant}
use Rattle.commands.specs.Phase.{shares_given}
use Rattle.scenes.specs.declared.scene.Scene.{Scene}
use Rattle.scenes.specs.declared.side.Side.{Side}
use Rattle.scenes.specs.Exposed.{exposed_at}
use Rattle.scenes.specs.Scenes.{old_side, scene_at}
use Rattle.rehearsal_laws.specs.Played.{IsPlayed}

-- ---- the phases
-- the first of them, as they are drawn
abbrev pub scenes_to : ℕ → ℕ → ℕ → ℕ → List Scene
scenes_to members bound number count = map (scene_at members bound number) (places count)

-- the five shares of a member after a phase, where the moves have these error vectors
abbrev pub lanes_after : Course → (ℕ → List (List Fp)) → ℕ → ℕ → List Fp
lanes_after course errors phase member = map (λ lane. share_after_phase course errors phase lane member) (places 5)

-- the shares with which a committee begins a phase, by member: each member that isn't without has those that the phase
-- before left it
abbrev pub shares_before : Course → (ℕ → List (List Fp)) → Side → ℕ → List (Option (List Fp))
shares_before course errors side zero = []
shares_before course errors side (suc last) = shares_given (has side.shareless) (lanes_after course errors last) side.members

-- the phase with this number is the record of a play of the drawn phase, which begins with the shares that the phases
-- before it leave
abbrev pub IsPlayedAt : ℕ → ℕ → ℕ → List Phase → (ℕ → List (List Fp)) → ℕ → Type 0
IsPlayedAt members bound number phases errors place =
    IsPlayed number place (scene_at members bound number place)
    (shares_before (course_of phases []) errors (old_side (scene_at members bound number place)) place)
    (phase_at phases place)

-- the phases are the first ones of the rehearsal from a number that a committee of this size and bound begins
pub record ArePhases (members bound number : ℕ) (phases : List Phase) : Type 0 where
  -- the error vectors of the moves, by phase and lane
  pub errors : ℕ → List (List Fp)
  pub have_errors : (place : ℕ) → place < length phases → (course_of phases []).kind place ≡ Moved →
      HasErrors ((course_of phases []).play place) (errors place)
  pub played : (place : ℕ) → place < length phases → IsPlayedAt members bound number phases errors place

-- ---- who is exposed
-- the masks of all periods, in a rehearsal of so many periods after the first phase
abbrev pub exposed_in : ℕ → ℕ → ℕ → ℕ → List ℕ
exposed_in members bound number periods = map (exposed_at members bound number periods) (places (periods + 1))

-- ---- what is counted and wished
-- how many instances are accepted, by phase
abbrev pub accepted_in : List Phase → List ℕ
accepted_in phases = map (λ phase. accepted_count (play_of phase)) phases

-- the wished key has each lane one greater than the key
abbrev pub raised : List Fp → List Fp
raised key = map (λ lane. get_or key lane zeroₚ +ₚ oneₚ) (places 5)

-- ---- a rehearsal
-- The history is that of a rehearsal from a number, which a committee of this size and bound begins, with so many periods
-- after the first phase. The other is its other choices for the wished key, and so many instances are accepted by phase
pub record IsRehearsal (members bound periods number : ℕ) (history other : HistoryValue) (accepted : List ℕ) : Type 0 where
  pub count : length history.phases ≡ periods + 1
  pub phases : ArePhases members bound number history.phases
  pub exposed : history.exposed ≡ exposed_in members bound number periods
  pub accepted_is : accepted ≡ accepted_in history.phases
  pub key : List Fp
  pub is_key : HasKey (meant history) key
  pub other_is : IsTranslation history (raised key) other
