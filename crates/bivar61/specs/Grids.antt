-- Grids as lists: for each power of x the coefficients in y.
use Rattle.std.specs.Prelude.{◌≡◌, ℕ, zero, suc, ◌+◌, ◌≤◌, List, [], ◌∷◌, length, take, drop, get_or, All}
use Rattle.algebra61.specs.Field.{Fp, zeroₚ, ◌+ₚ◌, ◌*ₚ◌}
use Rattle.algebra61.specs.Poly.{coeff}

-- a grid of degree d: d + 1 lists of d + 1 coefficients, d at most 14
pub record IsGrid (d : ℕ) (g : List (List Fp)) : Type 0 where
  pub limit : d ≤ 14
  pub in_x : length g ≡ d + 1
  pub in_y : All (λ (p : List Fp). length p ≡ d + 1) g

-- the coefficient of x^a * y^b
abbrev pub coefficient : List (List Fp) → ℕ → ℕ → Fp
coefficient g a b = coeff (get_or g a []) b

-- k lists of n elements each, one after another
abbrev pub rows_of : ℕ → ℕ → List Fp → List (List Fp)
rows_of n zero c = []
rows_of n (suc k) c = take n c ∷ rows_of n k (drop n c)

-- the grid of degree d of a list of (d + 1) * (d + 1) elements
abbrev pub grid_of : ℕ → List Fp → List (List Fp)
grid_of d c = rows_of (d + 1) (d + 1) c

-- the list with k times the coefficients of v from the power b on added
abbrev pub multiple_added : Fp → ℕ → List Fp → List Fp → List Fp
multiple_added k b [] v = []
multiple_added k b (c ∷ cs) v = (c +ₚ k *ₚ coeff v b) ∷ multiple_added k (suc b) cs v
