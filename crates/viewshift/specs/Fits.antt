-- Which lists of phases and masks are histories, and what is answered for those that aren't.
use Rattle.std.specs.Prelude.{◌≡◌, ℕ, suc, ◌+◌, ◌-◌, ◌^◌, ◌<◌, ◌≤◌, ◌⊎◌, List, [], length}
use Rattle.algebra61.specs.Field.{Fp}
use Rattle.talk.specs.Sync.{has}
use Rattle.histories61.specs.Phases.{IsExposure, Within, receivers_down}
use Rattle.histories61.specs.Course.{IsHistory, PhaseFits, FitsTo}
use Rattle.playback.specs.declared.phase.Phase.{Phase}
use Rattle.playback.specs.Recorded.{play_of}
use Rattle.playback.specs.Kept.{IsKept}
use Rattle.viewshift.specs.declared.history.HistoryFault.{HistoryFault}
use Rattle.viewshift.specs.declared.history.HistoryFault.TheVariants.{Phase as UnfitPhase, Exposed as BadMask, OutOfMemory}
use Rattle.viewshift.specs.Listed.{course_of, phase_at, mask_at}

-- the phase at a place keeps what each phase has to, and may stand where it stands, whatever error vectors the moves before
-- it have. It doesn't matter who is exposed
pub record FitsAt (phases : List Phase) (k : ℕ) : Type 0 where
  pub kept : IsKept (phase_at phases k)
  pub fits : (errors : ℕ → List (List Fp)) → FitsTo (course_of phases []) errors k → PhaseFits (course_of phases []) errors k

-- a mask names no stranger to those who receive in the phase, at most the bound of them, and all of them who are down in it
pub record IsMaskAfter (phase : Phase) (mask : ℕ) : Type 0 where
  pub own : mask < 2 ^ phase.setting.receivers
  pub exposure : IsExposure phase.setting.receivers phase.setting.bound (receivers_down (play_of phase)) (has mask)

-- and all who are down in the phase that ends the period
abbrev pub HasNext : List Phase → ℕ → ℕ → Type 0
HasNext phases k mask = suc k < length phases → Within (phase_at phases k).setting.receivers (has (phase_at phases (suc k)).down) (has mask)

-- so it is with the mask of the period that the phase at a place begins
pub record MaskFits (phases : List Phase) (exposed : List ℕ) (k : ℕ) : Type 0 where
  pub names_few : IsMaskAfter (phase_at phases k) (mask_at exposed k)
  pub has_next : HasNext phases k (mask_at exposed k)

-- there are phases, and all of them fit
abbrev pub AllFit : List Phase → Type 0
AllFit phases = (1 ≤ length phases) × ((k : ℕ) → k < length phases → FitsAt phases k)

-- the place of the first phase that doesn't fit, or 0 where there is no phase
abbrev pub IsFirstUnfit : List Phase → ℕ → Type 0
IsFirstUnfit phases place =
    ((length phases ≡ 0) × (place ≡ 0))
    ⊎ ((place < length phases) × ((k : ℕ) → k < place → FitsAt phases k) × (FitsAt phases place → ⊥))

-- the first period, counted from 1, whose mask doesn't fit; or the one past the last, where it has a mask
abbrev pub IsFirstBad : List Phase → List ℕ → ℕ → Type 0
IsFirstBad phases exposed period =
    (1 ≤ period) × (period ≤ length phases + 1) × ((k : ℕ) → k + 1 < period → MaskFits phases exposed k)
    × ((period ≤ length phases → MaskFits phases exposed (period - 1) → ⊥) × (period ≡ length phases + 1 → length phases < length exposed))

-- all masks fit, and none stands past the last period
pub record AllMasksFit (phases : List Phase) (exposed : List ℕ) : Type 0 where
  pub masks_fit : (k : ℕ) → k < length phases → MaskFits phases exposed k
  pub no_more : length exposed ≤ length phases

-- why the lists are no history; want of memory is free
abbrev pub IsFault : List Phase → List ℕ → HistoryFault → Type 0
IsFault phases exposed (UnfitPhase place) = IsFirstUnfit phases place
IsFault phases exposed (BadMask period) = AllFit phases × IsFirstBad phases exposed period
IsFault phases exposed OutOfMemory = Unit {0}

-- the lists are a history
pub record AreHistory (phases : List Phase) (exposed : List ℕ) : Type 0 where
  pub phases_fit : AllFit phases
  pub masks : AllMasksFit phases exposed

-- then they are one in the sense of the definitions
abbrev pub ListsAreHistory : Type 0
ListsAreHistory = (phases : List Phase) (exposed : List ℕ) → AreHistory phases exposed → IsHistory (course_of phases exposed)
