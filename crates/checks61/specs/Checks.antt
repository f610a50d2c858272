-- The parity check of a Reed-Solomon code at the points 1 to size, its syndromes and their error vectors. A vector is a
-- function from 1 on; what it is past the last point doesn't matter. All recursions grow upward.
use Rattle.std.specs.Prelude.{◌≡◌, ℕ, zero, suc, ◌+◌, ◌-◌, ◌<◌, ◌≤◌, List, map, length, get_or, eqb, cond}
use Rattle.std.specs.List.{range_with_len}
use Rattle.algebra61.specs.Field.{Fp, fe, zeroₚ, oneₚ, powₚ, ◌+ₚ◌, ◌-ₚ◌, ◌*ₚ◌}
use Rattle.algebra61.specs.Inverse.{invₚ}
use Rattle.algebra61.specs.Poly.{eval}

-- f 1 + .. + f n
abbrev pub sum_to : ℕ → (ℕ → Fp) → Fp
sum_to zero f = zeroₚ
sum_to (suc n) f = sum_to n f +ₚ f (suc n)

-- the product of x - j over the points j of 1 to n other than the given one
abbrev pub others_product : ℕ → ℕ → Fp → Fp
others_product zero point x = oneₚ
others_product (suc n) point x = others_product n point x *ₚ cond (eqb (suc n) point) oneₚ (x -ₚ fe (suc n))

-- ---- the parity check
-- the entry in a row, from 0, and the column of a point, from 1: the point to the power of the row, divided by the product
-- of its differences from the other points
abbrev pub check_entry : ℕ → ℕ → ℕ → Fp
check_entry size row point = invₚ (others_product size point (fe point)) *ₚ powₚ (fe point) row

-- a row times a vector
abbrev pub check_of : ℕ → ℕ → (ℕ → Fp) → Fp
check_of size row vector = sum_to size (λ point. check_entry size row point *ₚ vector point)

-- the syndrome of a vector: the first rows times it
abbrev pub syndrome_of : ℕ → ℕ → (ℕ → Fp) → List Fp
syndrome_of size rows vector = map (λ row. check_of size row vector) (range_with_len 0 rows)

-- the first size - bound - 1 rows times the vector are 0. So many rows the parity check has where the code's polynomials
-- have degree at most the bound
abbrev pub HasZeroSyndrome : ℕ → ℕ → (ℕ → Fp) → Type 0
HasZeroSyndrome size bound vector = (row : ℕ) → row < size - bound - 1 → check_of size row vector ≡ zeroₚ

-- the polynomial has degree at most the bound, and the vector's values at the points
pub record HasValues (size bound : ℕ) (vector : ℕ → Fp) (polynomial : List Fp) : Type 0 where
  pub short : length polynomial ≤ bound + 1
  pub values : (point : ℕ) → 1 ≤ point → point ≤ size → vector point ≡ eval polynomial (fe point)

-- ---- error vectors
-- the entry of a list at a point, from 1; 0 past its end
abbrev pub entry : List Fp → ℕ → Fp
entry list point = get_or list (point - 1) zeroₚ

-- how many of the entries 1 to n are not 0
abbrev pub nonzero_to : ℕ → (ℕ → Fp) → ℕ
nonzero_to zero vector = 0
nonzero_to (suc n) vector = nonzero_to n vector + cond (eqb (vector (suc n)).num 0) 0 1

-- the error vector of a syndrome: at most `bound` of its entries are not 0, and its syndrome is this one
pub record IsErrorOf (size bound : ℕ) (syndrome error : List Fp) : Type 0 where
  pub long : length error ≡ size
  pub few : nonzero_to size (entry error) ≤ bound
  pub gives : syndrome_of size (size - bound - 1) (entry error) ≡ syndrome

-- the differences of a vector from a polynomial's values
abbrev pub difference_from : ℕ → (ℕ → Fp) → List Fp → List Fp
difference_from size vector polynomial = map (λ point. vector point -ₚ eval polynomial (fe point)) (range_with_len 1 size)

-- ---- the value at 0
-- the weight of a point in the value at 0, by the points 1 to n (Lagrange)
abbrev pub weight_at_zero : ℕ → ℕ → Fp
weight_at_zero n point = others_product n point zeroₚ *ₚ invₚ (others_product n point (fe point))

-- the value at 0, by the points 1 to n, of a vector less its errors
abbrev pub corrected : ℕ → (ℕ → Fp) → (ℕ → Fp) → Fp
corrected n vector errors = sum_to n (λ point. weight_at_zero n point *ₚ (vector point -ₚ errors point))
