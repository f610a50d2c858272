-- The polynomial through points, and the one that vanishes on a set.
use Rattle.std.specs.Prelude.{◌≡◌, ℕ, ◌+◌, ◌≤◌, List, [], ◌∷◌, length, All}
use Rattle.algebra61.specs.Field.{Fp, fe, zeroₚ, oneₚ}
use Rattle.algebra61.specs.Poly.{eval, Point, Passes}
use Rattle.algebra61.specs.Polynomial.{Polynomial}
use Rattle.algebra61.specs.Nearest.{Named}

-- the pairs of a point and a value as points
abbrev pub pairs : List (Fp × Fp) → List Point
pairs [] = []
pairs (q ∷ qs) = record { at = q.0; value = q.1 } ∷ pairs qs

-- p is the interpolant: it is no longer than the list of points and has their values
pub record IsThrough (qs : List Point) (p : Polynomial) : Type 0 where
  pub short : length p.coeffs ≤ length qs
  pub passes : Passes p.coeffs qs

-- no number stands twice
abbrev pub AllDiffer : List ℕ → Type 0
AllDiffer [] = Unit {0}
AllDiffer (k ∷ ks) = (Named k ks → ⊥) × AllDiffer ks

-- p has a degree of at most the set's size, the value 1 at 0 and the value 0 on the set
pub record IsVanisher (set : List ℕ) (p : Polynomial) : Type 0 where
  pub short : length p.coeffs ≤ length set + 1
  pub at_zero : eval p.coeffs zeroₚ ≡ oneₚ
  pub on_set : All (λ i. eval p.coeffs (fe i) ≡ zeroₚ) set
