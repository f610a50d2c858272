-- The other choices of a history that is kept: each phase is translated by the difference of the keys.
use Rattle.std.specs.Prelude.{◌≡◌, ℕ, ◌-◌, ◌<◌, ◌↔◌, List, length, map, get_or}
use Rattle.algebra61.specs.Field.{Fp, zeroₚ, ◌+ₚ◌, ◌-ₚ◌}
use Rattle.talk.specs.Sync.{has}
use Rattle.plays.specs.Said.{places}
use Rattle.histories61.specs.Course.{Course}
use Rattle.choices61.specs.Other.{other_course}
use Rattle.playback.specs.declared.phase.Phase.{Phase}
use Rattle.phaseshift.specs.Shift.{other_phase}
use Rattle.viewshift.specs.Listed.{phase_at, mask_at, course_of}
use Rattle.viewshift.specs.Fits.{AreHistory}
use Rattle.viewshift.specs.Kept.{HistoryValue}
use Rattle.viewshift.specs.Key.{HasKey}
use Rattle.viewshift.specs.declared.views.Views.{Views}
use Rattle.viewshift.specs.Seen.{HasViews}

-- the course that a history is
abbrev pub meant : HistoryValue → Course
meant history = course_of history.phases history.exposed

-- ---- the other choices
-- the other phase at a place. The period that it ends is the one before the period that it begins; the first phase ends none, and
-- what stands for it is never read
abbrev pub other_at : List Phase → List ℕ → (ℕ → Fp) → ℕ → Phase
other_at phases exposed difference place =
    other_phase (phase_at phases place) (has (mask_at exposed (place - 1))) (has (mask_at exposed place)) difference

-- those of all places; difference is by how much the key changes, by lane
abbrev pub other_phases : List Phase → List ℕ → (ℕ → Fp) → List Phase
other_phases phases exposed difference = map (other_at phases exposed difference) (places (length phases))

abbrev pub other_history : HistoryValue → (ℕ → Fp) → HistoryValue
other_history history difference =
    record { phases = other_phases history.phases history.exposed difference; exposed = history.exposed }

-- ---- what a call gives that is asked for them
-- the two differ in the grids of their phases alone
pub record SameButGrids (history other : HistoryValue) : Type 0 where
  pub exposed : other.exposed ≡ history.exposed
  pub number : length other.phases ≡ length history.phases
  pub phases : (place : ℕ) → phase_at other.phases place ≡ record (phase_at history.phases place) { grids = (phase_at other.phases place).grids }

-- by how much a key has to change to be the wished one
abbrev pub IsApart : List Fp → List Fp → (ℕ → Fp) → Type 0
IsApart wished key difference = (lane : ℕ) → lane < 5 → difference lane ≡ get_or wished lane zeroₚ -ₚ get_or key lane zeroₚ

-- the other is the history translated by the wished key less its own
pub record IsTranslation (history : HistoryValue) (wished : List Fp) (other : HistoryValue) : Type 0 where
  pub key : List Fp
  pub is_key : HasKey (meant history) key
  pub difference : ℕ → Fp
  pub is_difference : IsApart wished key difference
  pub is_translated : other ≡ other_history history difference

-- both have the same lists of views
abbrev pub SameViews : HistoryValue → HistoryValue → Type 0
SameViews history other = (views : Views) → HasViews (meant history) views ↔ HasViews (meant other) views

-- whatever is the other's translation to the history's key is the history
abbrev pub FirstComesAgain : HistoryValue → HistoryValue → Type 0
FirstComesAgain history other = (key : List Fp) (again : HistoryValue) → HasKey (meant history) key → IsTranslation other key again → again ≡ history

-- ---- laws
-- the other phases are the other choices of the history that the phases are
abbrev pub OthersAreCourse : Type 0
OthersAreCourse =
    (phases : List Phase) (exposed : List ℕ) (difference : ℕ → Fp) →
    course_of (other_phases phases exposed difference) exposed ≡ other_course (course_of phases exposed) difference

-- they are a history again
abbrev pub OthersAreHistory : Type 0
OthersAreHistory =
    (phases : List Phase) (exposed : List ℕ) (difference : ℕ → Fp) → AreHistory phases exposed →
    AreHistory (other_phases phases exposed difference) exposed

-- with the difference back, the first phases come again
abbrev pub PhasesComeAgain : Type 0
PhasesComeAgain =
    (phases : List Phase) (exposed : List ℕ) (difference back : ℕ → Fp) → AreHistory phases exposed →
    ((lane : ℕ) → lane < 5 → difference lane +ₚ back lane ≡ zeroₚ) →
    other_phases (other_phases phases exposed difference) exposed back ≡ phases
