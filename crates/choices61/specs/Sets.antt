-- Sets of the members 1 to n, as tests, and the polynomials that are 0 on them.
use Rattle.std.specs.Prelude.{ℕ, zero, suc, Bool, true, false, cond, List, [], ◌∷◌}
use Rattle.algebra61.specs.Field.{Fp, fe, oneₚ, negₚ}
use Rattle.algebra61.specs.Inverse.{invₚ}
use Rattle.algebra61.specs.Poly.{mul_list}

-- 1 - x / k: the polynomial of degree 1 that is 1 at 0 and 0 at k
abbrev pub vanishing_at : ℕ → List Fp
vanishing_at point = oneₚ ∷ negₚ (invₚ (fe point)) ∷ []

-- the polynomial that is 1 at 0 and 0 at each member of the set; its degree is the size of the set
unfoldable pub vanisher_of : ℕ → (ℕ → Bool) → List Fp
vanisher_of zero set = oneₚ ∷ []
vanisher_of (suc count) set = cond (set (suc count)) (mul_list (vanishing_at (suc count)) (vanisher_of count set)) (vanisher_of count set)

-- a polynomial that is 0 at 0, divided by y
abbrev pub over_y : List Fp → List Fp
over_y [] = []
over_y (constant ∷ higher) = higher

-- the lowest of 1 to n that the test leaves out, 0 where it leaves out none
abbrev pub first_or : ℕ → Bool → ℕ → ℕ
first_or zero true number = 0
first_or zero false number = number
first_or (suc found) named number = suc found

abbrev pub lowest_out : ℕ → (ℕ → Bool) → ℕ
lowest_out zero set = 0
lowest_out (suc count) set = first_or (lowest_out count set) (set (suc count)) (suc count)
