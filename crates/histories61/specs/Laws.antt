-- What holds in every history. All laws but the first speak of the first n phases alone, so they can be used while a history
-- is made.
use Rattle.std.specs.Prelude.{◌≡◌, ℕ, suc, ◌<◌, ◌≤◌, List}
use Rattle.algebra61.specs.Field.{Fp, zeroₚ}
use Rattle.algebra61.specs.Poly.{eval}
use Rattle.histories61.specs.Phases.{Moved, FirstFits}
use Rattle.histories61.specs.Course.{Course, HasErrors, share_after_phase, PhaseFits, FitsTo, IsHistoryBy, IsPeriodPolynomial, IsKey}

-- ---- the key
-- in every period and lane the sound shares lie on one polynomial of degree at most the bound, and all of these have the key
-- as their value at 0
abbrev pub HistoryHasKey : Type 0
HistoryHasKey =
    (course : Course) (errors : ℕ → List (List Fp)) → IsHistoryBy course errors → (lane : ℕ) → lane < 5 →
    (key : Fp) × IsKey course lane key
    × ((phase : ℕ) → phase < course.phases →
    (polynomial : List Fp) × IsPeriodPolynomial course errors phase lane polynomial × (eval polynomial zeroₚ ≡ key))

abbrev pub PhasesHaveKey : Type 0
PhasesHaveKey =
    (course : Course) (errors : ℕ → List (List Fp)) (n : ℕ) → FitsTo course errors (suc n) → (lane : ℕ) → lane < 5 →
    (key : Fp) × IsKey course lane key
    × ((phase : ℕ) → phase ≤ n →
    (polynomial : List Fp) × IsPeriodPolynomial course errors phase lane polynomial × (eval polynomial zeroₚ ≡ key))

-- there is only one such polynomial, as values tell
abbrev pub OnePolynomial : Type 0
OnePolynomial =
    (course : Course) (errors : ℕ → List (List Fp)) (n : ℕ) → FitsTo course errors n → (phase lane : ℕ) → phase < n →
    (polynomial other : List Fp) → IsPeriodPolynomial course errors phase lane polynomial → IsPeriodPolynomial course errors phase lane other →
    (x : Fp) → eval polynomial x ≡ eval other x

-- there is only one key
abbrev pub OneKey : Type 0
OneKey =
    (course : Course) (lane : ℕ) (key other : Fp) → FirstFits (course.kind 0) (course.play 0) →
    IsKey course lane key → IsKey course lane other → key ≡ other

-- so the key stays: it is the value at 0 of each period's polynomial
abbrev pub KeyStays : Type 0
KeyStays =
    (course : Course) (errors : ℕ → List (List Fp)) (n : ℕ) → FitsTo course errors n → (phase lane : ℕ) → phase < n → lane < 5 →
    (key : Fp) (polynomial : List Fp) → IsKey course lane key → IsPeriodPolynomial course errors phase lane polynomial →
    eval polynomial zeroₚ ≡ key

-- ---- the error vectors
-- a move that may stand where it stands has its error vectors: no opening fails, and each lane has one
abbrev pub MovesHaveErrors : Type 0
MovesHaveErrors =
    (course : Course) (errors : ℕ → List (List Fp)) (n : ℕ) → FitsTo course errors (suc n) → PhaseFits course errors (suc n) →
    course.kind (suc n) ≡ Moved →
    (found : List (List Fp)) × HasErrors (course.play (suc n)) found

-- it has no others
abbrev pub OneErrors : Type 0
OneErrors =
    (course : Course) (errors other : ℕ → List (List Fp)) (n : ℕ) → FitsTo course errors n → FitsTo course other n →
    (phase : ℕ) → phase < n → course.kind phase ≡ Moved → errors phase ≡ other phase

-- so the shares don't depend on which error vectors are named
abbrev pub OneShare : Type 0
OneShare =
    (course : Course) (errors other : ℕ → List (List Fp)) (n : ℕ) → FitsTo course errors n → FitsTo course other n →
    (phase lane receiver : ℕ) → phase < n →
    share_after_phase course errors phase lane receiver ≡ share_after_phase course other phase lane receiver

-- ---- phase by phase
-- where each of the first n phases may stand where it stands, whatever error vectors the moves before it have, all of them
-- may, with some error vectors
abbrev pub PhasesFitTogether : Type 0
PhasesFitTogether =
    (course : Course) (n : ℕ) →
    ((phase : ℕ) → phase < n → (errors : ℕ → List (List Fp)) → FitsTo course errors phase → PhaseFits course errors phase) →
    (errors : ℕ → List (List Fp)) × FitsTo course errors n
