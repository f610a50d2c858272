-- Grids: polynomials in x whose coefficients are polynomials in y.
use Rattle.std.specs.Prelude.{◌≡◌, ℕ, ◌+◌, ◌≤◌, List, [], ◌∷◌, length}
use Rattle.algebra61.specs.Field.{Fp}
use Rattle.algebra61.specs.Poly.{eval, add_list, scale_list}

-- S (x, i) as a polynomial in x
abbrev pub row : List (List Fp) → Fp → List Fp
row [] i = []
row (p ∷ ps) i = eval p i ∷ row ps i

-- S (i, y) as a polynomial in y
abbrev pub column : List (List Fp) → Fp → List Fp
column [] i = []
column (p ∷ ps) i = add_list p (scale_list i (column ps i))

-- the value S (x, y)
abbrev pub grid_at : List (List Fp) → Fp → Fp → Fp
grid_at g x y = eval (row g y) x

-- the grid with the product of a polynomial in x and one in y added
abbrev pub add_product : List (List Fp) → List Fp → List Fp → List (List Fp)
add_product g [] v = g
add_product [] (a ∷ u) v = scale_list a v ∷ add_product [] u v
add_product (p ∷ ps) (a ∷ u) v = add_list p (scale_list a v) ∷ add_product ps u v

-- no list has more than n entries
abbrev pub AllShort : ℕ → List (List Fp) → Type 0
AllShort n [] = Unit {0}
AllShort n (p ∷ ps) = (length p ≤ n) × AllShort n ps

-- degree at most d in each variable
pub record Degree (d : ℕ) (g : List (List Fp)) : Type 0 where
  pub in_x : length g ≤ d + 1
  pub in_y : AllShort (d + 1) g

-- who holds a row and a column at a point
pub record Holder : Type 0 where
  pub at : Fp
  pub across : List Fp
  pub down : List Fp

-- what each of the others says of a holder, its row at the holder's point, is the holder's column there
abbrev pub Facing : Holder → List Holder → Type 0
Facing m [] = Unit {0}
Facing m (n ∷ ns) = (eval n.across m.at ≡ eval m.down n.at) × Facing m ns

-- each of the others has at the holder's point, in its column, what the holder's row has at its point
abbrev pub FacedBy : Holder → List Holder → Type 0
FacedBy m [] = Unit {0}
FacedBy m (n ∷ ns) = (eval n.down m.at ≡ eval m.across n.at) × FacedBy m ns

-- what the holders say of the others agrees wherever two of them cross
abbrev pub EachFacing : List Holder → List Holder → Type 0
EachFacing [] ns = Unit {0}
EachFacing (m ∷ ms) ns = Facing m ns × EachFacing ms ns

-- the holders' points
abbrev pub holder_points : List Holder → List Fp
holder_points [] = []
holder_points (m ∷ ms) = m.at ∷ holder_points ms

-- each holder's row and column have at most n coefficients
abbrev pub AllWithin : ℕ → List Holder → Type 0
AllWithin n [] = Unit {0}
AllWithin n (m ∷ ms) = ((length m.across ≤ n) × (length m.down ≤ n)) × AllWithin n ms

-- a holder's row and column are those of the grid
pub record OnGrid (g : List (List Fp)) (m : Holder) : Type 0 where
  pub across : (x : Fp) → eval (row g m.at) x ≡ eval m.across x
  pub down : (y : Fp) → eval (column g m.at) y ≡ eval m.down y

-- each holder's row and column are those of the grid
abbrev pub AllOnGrid : List (List Fp) → List Holder → Type 0
AllOnGrid g [] = Unit {0}
AllOnGrid g (m ∷ ms) = OnGrid g m × AllOnGrid g ms
