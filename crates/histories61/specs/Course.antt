-- A history of a key: its phases one after another, and who is exposed in each period. Phases are numbered from 0, periods
-- from 1: phase k begins period k + 1. Its receivers are the committee of that period.
use Rattle.std.specs.Prelude.{◌≡◌, ℕ, zero, suc, ◌<◌, ◌≤◌, Bool, List, [], get_or}
use Rattle.algebra61.specs.Field.{Fp, zeroₚ}
use Rattle.algebra61.specs.Poly.{eval}
use Rattle.plays.specs.Play.{Play, created_share}
use Rattle.periods.specs.Refresh.{refreshed_share}
use Rattle.periods.specs.Move.{syndromes_heard, HaveErrors, moved_share}
use Rattle.periods.specs.Laws.{LieOn}
use Rattle.histories61.specs.Phases.{Kind, Created, Refreshed, Moved, receivers_down, Within, IsExposure, FirstFits, NextFits}

-- the plays of a history, by phase
pub record Course : Type 0 where
  -- how many phases there are
  pub phases : ℕ
  pub kind : ℕ → Kind
  pub play : ℕ → Play
  -- who is exposed in the period that a phase begins
  pub exposed : ℕ → ℕ → Bool

-- ---- the shares
-- the error vectors of a move, lane by lane
abbrev pub HasErrors : Play → List (List Fp) → Type 0
HasErrors play errors = HaveErrors play.shape (syndromes_heard play) errors

-- a receiver's share in a lane after a phase, with the error vector of the lane where it is a move, and its share before where
-- it is a refresh
abbrev pub next_share : Kind → Play → ℕ → List Fp → ℕ → Fp → Fp
next_share Created play lane error receiver old = created_share play lane receiver
next_share Refreshed play lane error receiver old = refreshed_share play lane receiver old
next_share Moved play lane error receiver old = moved_share play lane error receiver

-- the share in a lane of a receiver of the phase, where the moves have these error vectors, by phase and lane. The error
-- vectors follow from the plays
abbrev pub share_after_phase : Course → (ℕ → List (List Fp)) → ℕ → ℕ → ℕ → Fp
share_after_phase course errors zero lane receiver = created_share (course.play 0) lane receiver
share_after_phase course errors (suc phase) lane receiver =
    next_share (course.kind (suc phase)) (course.play (suc phase)) lane (get_or (errors (suc phase)) lane []) receiver (share_after_phase course errors phase lane receiver)

-- ---- histories
-- the phase may stand where it stands
abbrev pub PhaseFits : Course → (ℕ → List (List Fp)) → ℕ → Type 0
PhaseFits course errors zero = FirstFits (course.kind 0) (course.play 0)
PhaseFits course errors (suc phase) = NextFits (course.kind (suc phase)) (course.play phase) (course.play (suc phase)) (share_after_phase course errors phase)

-- the first n phases may stand where they stand, and these are the error vectors of their moves. It doesn't matter here who
-- is exposed
pub record FitsTo (course : Course) (errors : ℕ → List (List Fp)) (n : ℕ) : Type 0 where
  pub phases_fit : (phase : ℕ) → phase < n → PhaseFits course errors phase
  pub have_errors : (phase : ℕ) → phase < n → course.kind phase ≡ Moved → HasErrors (course.play phase) (errors phase)

-- who is exposed in the period that the phase begins
pub record ExposedFits (course : Course) (phase : ℕ) : Type 0 where
  -- at most the bound, and all who are down in this phase
  pub own :
      IsExposure (course.play phase).shape.receivers (course.play phase).shape.bound (receivers_down (course.play phase)) (course.exposed phase)
  -- all who are down in the phase that ends the period
  pub next : suc phase < course.phases → Within (course.play phase).shape.receivers (course.play (suc phase)).down (course.exposed phase)

-- the course is a history, and its moves have these error vectors
pub record IsHistoryBy (course : Course) (errors : ℕ → List (List Fp)) : Type 0 where
  pub some_phase : 1 ≤ course.phases
  pub fits : FitsTo course errors course.phases
  pub exposed_fit : (phase : ℕ) → phase < course.phases → ExposedFits course phase

abbrev pub IsHistory : Course → Type 0
IsHistory course = (errors : ℕ → List (List Fp)) × IsHistoryBy course errors

-- ---- the period polynomial and the key
-- a member is sound in a period where it isn't down in the phase that began it: the sound members' shares in the lane are the
-- values of this polynomial, which has at most the bound as degree
abbrev pub IsPeriodPolynomial : Course → (ℕ → List (List Fp)) → ℕ → ℕ → List Fp → Type 0
IsPeriodPolynomial course errors phase lane polynomial =
    LieOn (course.play phase) (course.play phase).shape.bound (share_after_phase course errors phase lane) polynomial

-- the key in the lane: the value at 0 of the polynomial of the first period
abbrev pub IsKey : Course → ℕ → Fp → Type 0
IsKey course lane key =
    (polynomial : List Fp) × LieOn (course.play 0) (course.play 0).shape.bound (created_share (course.play 0) lane) polynomial
    × (key ≡ eval polynomial zeroₚ)
