-- The polynomials through the shares that are there, lane by lane.
use Rattle.std.specs.Prelude.{◌≡◌, ℕ, suc, ◌<◌, List, [], ◌∷◌, length, get_or, Option, Some, None}
use Rattle.algebra61.specs.Field.{Fp, fe, zeroₚ}
use Rattle.algebra61.specs.Polynomial.{Polynomial, poly}
use Rattle.poly61.specs.Points.{pairs, IsThrough}

-- the points of the shares that are there in a lane, where the first of the list is the share of this member
abbrev pub shared_points : ℕ → ℕ → List (Option (List Fp)) → List (Fp × Fp)
shared_points lane member [] = []
shared_points lane member (None ∷ rest) = shared_points lane (suc member) rest
shared_points lane member (Some values ∷ rest) = (fe member, get_or values lane zeroₚ) ∷ shared_points lane (suc member) rest

-- the coefficients of the polynomial of a lane
abbrev pub coeffs_in : List Polynomial → ℕ → List Fp
coeffs_in polynomials lane = (get_or polynomials lane (poly [])).coeffs

-- in each of five lanes the polynomial is the interpolant of all shares, where the first is that of member 1
pub record AreThrough (shares : List (Option (List Fp))) (polynomials : List Polynomial) : Type 0 where
  pub five : length polynomials ≡ 5
  pub through : (lane : ℕ) → lane < 5 → IsThrough (pairs (shared_points lane 1 shares)) (get_or polynomials lane (poly []))
