-- The key of a history in all lanes.
use Rattle.std.specs.Prelude.{◌≡◌, ℕ, ◌<◌, List, get_or}
use Rattle.algebra61.specs.Field.{Fp, zeroₚ}
use Rattle.algebra61.specs.Poly.{eval}
use Rattle.histories61.specs.Course.{Course, IsHistoryBy, IsPeriodPolynomial, IsKey}

pub record HasKey (course : Course) (key : List Fp) : Type 0 where
  -- in each lane it is the value at 0 of the polynomial of the first period
  pub first : (lane : ℕ) → lane < 5 → IsKey course lane (get_or key lane zeroₚ)
  -- in every period and lane the sound members' shares lie on a polynomial of degree at most the bound that has this value at 0
  pub lie : (errors : ℕ → List (List Fp)) → IsHistoryBy course errors → (phase lane : ℕ) → phase < course.phases → lane < 5 →
      (polynomial : List Fp) × IsPeriodPolynomial course errors phase lane polynomial × (eval polynomial zeroₚ ≡ get_or key lane zeroₚ)
  -- and every such polynomial has it
  pub stays : (errors : ℕ → List (List Fp)) → IsHistoryBy course errors → (phase lane : ℕ) → phase < course.phases → lane < 5 →
      (polynomial : List Fp) → IsPeriodPolynomial course errors phase lane polynomial → eval polynomial zeroₚ ≡ get_or key lane zeroₚ
