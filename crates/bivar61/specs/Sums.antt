-- The value of a polynomial in two variables, as a sum of coefficients times powers.
use Rattle.std.specs.Prelude.{◌≡◌, ℕ, zero, suc, List, [], length, get_or}
use Rattle.algebra61.specs.Field.{Fp, zeroₚ, powₚ, ◌+ₚ◌, ◌*ₚ◌}
use Rattle.algebra61.specs.Poly.{eval, coeff}
use Rattle.algebra61.specs.Grid.{row, column, grid_at}
use Rattle.bivar61.specs.Grids.{coefficient}

-- f 0 + f 1 + .. + f (n - 1)
abbrev pub sum_below : ℕ → (ℕ → Fp) → Fp
sum_below zero f = zeroₚ
sum_below (suc n) f = sum_below n f +ₚ f n

-- S (x, y): the sum of c[a][b] * x^a * y^b over the coefficients
abbrev pub grid_sum : List (List Fp) → Fp → Fp → Fp
grid_sum g x y =
    sum_below (length g) (λ a. sum_below (length (get_or g a [])) (λ b. coefficient g a b *ₚ powₚ x a *ₚ powₚ y b))

-- the value of a grid is this sum; its row at y is S (x, y) for each x, and its column at x is S (x, y) for each y
pub record GridSums (g : List (List Fp)) : Type 0 where
  pub value : (x y : Fp) → grid_at g x y ≡ grid_sum g x y
  pub in_row : (x y : Fp) → eval (row g y) x ≡ grid_sum g x y
  pub in_column : (x y : Fp) → eval (column g x) y ≡ grid_sum g x y
