-- Lists of values, some of them missing, and the polynomial nearest to them. The value at place k (from 0) belongs to the point k + 1.
use Rattle.std.specs.Prelude.{◌≡◌, ℕ, suc, ◌+◌, ◌*◌, ◌≤◌, ◌⊎◌, List, [], ◌∷◌, length, Bool, true, false, eqb, get_or, Option, Some, None}
use Rattle.algebra61.specs.Field.{Fp, fe}
use Rattle.algebra61.specs.Poly.{eval, Point}
use Rattle.algebra61.specs.Polynomial.{Polynomial}

-- the present values with their points, the first value at the point k
abbrev pub present : ℕ → List (Option Fp) → List Point
present k [] = []
present k (None ∷ vs) = present (suc k) vs
present k (Some v ∷ vs) = record { at = fe k; value = v } ∷ present (suc k) vs

abbrev pub wrong_one : Bool → ℕ → List ℕ → List ℕ
wrong_one true k ks = ks
wrong_one false k ks = k ∷ ks

-- the points at which p has another value than the present one
abbrev pub wrong : List Fp → ℕ → List (Option Fp) → List ℕ
wrong p k [] = []
wrong p k (None ∷ vs) = wrong p (suc k) vs
wrong p k (Some v ∷ vs) = wrong_one (eqb (eval p (fe k)).num v.num) k (wrong p (suc k) vs)

-- the points without a value
abbrev pub missing : ℕ → List (Option Fp) → List ℕ
missing k [] = []
missing k (None ∷ vs) = k ∷ missing (suc k) vs
missing k (Some v ∷ vs) = missing (suc k) vs

-- k is one of the numbers
abbrev pub Named : ℕ → List ℕ → Type 0
Named k [] = ⊥
Named k (j ∷ js) = (k ≡ j) ⊎ Named k js

-- the value at place i is there and is that of p at the point i + 1
abbrev pub IsRight : List Fp → List (Option Fp) → ℕ → Type 0
IsRight p vs i = get_or vs i None ≡ Some (eval p (fe (i + 1)))

-- p has degree at most d and differs from e present values, where s are missing and 2 * e + s + d + 1 is at most the number of places
pub record IsNearest (d : ℕ) (vs : List (Option Fp)) (p : Polynomial) : Type 0 where
  pub short : length p.coeffs ≤ d + 1
  pub close : 2 * length (wrong p.coeffs 1 vs) + length (missing 1 vs) + d + 1 ≤ length vs
