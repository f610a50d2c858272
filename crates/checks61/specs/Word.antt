-- A word with a given syndrome: its entries past the syndrome's length are 0.
use Rattle.std.specs.Prelude.{ℕ, zero, suc, List, [], ◌∷◌, cond, eqb, ltb}
use Rattle.algebra61.specs.Field.{Fp, fe, zeroₚ, oneₚ, negₚ, ◌+ₚ◌, ◌*ₚ◌}
use Rattle.algebra61.specs.Inverse.{invₚ}
use Rattle.algebra61.specs.Poly.{coeff, mul_list, scale_list}
use Rattle.checks61.specs.Checks.{others_product}

-- the sum of the products of the first n coefficients of two lists
abbrev pub dot_to : ℕ → List Fp → List Fp → Fp
dot_to zero p z = zeroₚ
dot_to (suc n) p z = dot_to n p z +ₚ coeff p n *ₚ coeff z n

-- the product of x - j over the points j of 1 to n other than the given one, as a polynomial in x
abbrev pub others_polynomial : ℕ → ℕ → List Fp
others_polynomial zero point = oneₚ ∷ []
others_polynomial (suc n) point =
    cond (eqb (suc n) point) (others_polynomial n point) (mul_list (negₚ (fe (suc n)) ∷ oneₚ ∷ []) (others_polynomial n point))

-- the polynomial with at most n coefficients that is 1 at the point and 0 at the others of 1 to n (Lagrange)
abbrev pub basis : ℕ → ℕ → List Fp
basis n point = scale_list (invₚ (others_product n point (fe point))) (others_polynomial n point)

-- the entry at a point of the word with a syndrome of so many rows
abbrev pub word_entry : ℕ → ℕ → List Fp → ℕ → Fp
word_entry size rows syndrome point =
    cond (ltb rows point) zeroₚ (others_product size point (fe point) *ₚ dot_to rows (basis rows point) syndrome)
