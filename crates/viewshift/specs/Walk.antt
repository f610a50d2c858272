-- Going through the phases of a history one after another.
use Rattle.std.specs.Prelude.{◌≡◌, ℕ, zero, suc, ◌<◌, List, [], Option}
use Rattle.algebra61.specs.Field.{Fp}
use Rattle.histories61.specs.Course.{Course, share_after_phase, FitsTo}
use Rattle.playback.specs.declared.phase.Phase.{Phase}
use Rattle.playback.specs.Shares.{shares_by}
use Rattle.viewshift.specs.Listed.{course_of}
use Rattle.viewshift.specs.Fits.{FitsAt}

-- the shares that the first n phases leave, whatever error vectors their moves have; none before the first phase
abbrev pub AreLeft : Course → ℕ → List (Option (List Fp)) → Type 0
AreLeft course zero shares = Unit {0}
AreLeft course (suc k) shares =
    (errors : ℕ → List (List Fp)) → FitsTo course errors (suc k) → shares ≡ shares_by (course.play k) (share_after_phase course errors k)

-- the first n phases fit, and these are the shares that they leave
pub record IsAt (phases : List Phase) (n : ℕ) (shares : List (Option (List Fp))) : Type 0 where
  pub each : (k : ℕ) → k < n → FitsAt phases k
  pub left : AreLeft (course_of phases []) n shares
