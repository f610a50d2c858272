-- The rules of one sharing, each over what is before one receiver or one dealer. Receiver j has the point j.
-- The definition for all receivers and the one for a single seat give these rules different arguments, and the
-- rules themselves stand here alone.
use Rattle.std.specs.Prelude.{ℕ, ◌-◌, Bool, true, false, ◌&&◌, not, eqb, List, [], Option, Some, None, is_none}
use Rattle.std.proofs.Common.{leb}
use Rattle.algebra61.specs.Field.{Fp, fe}
use Rattle.algebra61.specs.Poly.{eval}
use Rattle.algebra61.specs.Polynomial.{Polynomial, poly}
use Rattle.algebra61.specs.Grid.{row, column, grid_at}
use Rattle.sharing61.specs.Count.{everyone, anyone, how_many}
use Rattle.sharing61.specs.declared.Crossing.{Crossing}

-- what a receiver holds: a row, a polynomial in x, and a column, a polynomial in y
pub record Pair : Type 0 where
  pub row : Polynomial
  pub column : Polynomial

-- whether two elements are equal
abbrev pub same : Fp → Fp → Bool
same first second = eqb first.num second.num

-- whether two rows' values are equal, and two columns' values
abbrev pub same_crossing : Crossing → Crossing → Bool
same_crossing mine theirs = same mine.row theirs.row && same mine.column theirs.column

-- the row's value taken as a column's, and the column's as a row's
abbrev pub swapped : Crossing → Crossing
swapped crossing = record { row = crossing.column; column = crossing.row }

-- the values of a pair at k's point
abbrev pub at_point : Pair → ℕ → Crossing
at_point pair other = record { row = eval pair.row.coeffs (fe other); column = eval pair.column.coeffs (fe other) }

-- j's row and column of a grid
abbrev pub pair_on : List (List Fp) → ℕ → Pair
pair_on grid receiver = record { row = poly (row grid (fe receiver)); column = poly (column grid (fe receiver)) }

-- two zero polynomials
abbrev pub zero_pair : Pair
zero_pair = record { row = poly []; column = poly [] }

-- the grid's values where j's row and column meet k's point: S (k, j) and S (j, k)
abbrev pub crossing_on : List (List Fp) → ℕ → ℕ → Crossing
crossing_on grid receiver other = record { row = grid_at grid (fe other) (fe receiver); column = grid_at grid (fe receiver) (fe other) }

-- The complaint. A receiver complains of k, telling its own values at k's point, unless k's crossing pair is these
-- two swapped. A crossing pair that is missing counts as different. The case of k itself is no other rule: its own
-- crossing pair is its values at its own point, which are swapped exactly where its row and column agree there.
abbrev pub unless_same : Bool → Crossing → Option Crossing
unless_same true mine = None
unless_same false mine = Some mine

abbrev pub complaint_of : Crossing → Option Crossing → Option Crossing
complaint_of mine None = Some mine
complaint_of mine (Some theirs) = unless_same (same_crossing theirs (swapped mine)) mine

-- The reveal. An honest dealer reveals j's pair where some complaint of j tells values other than the grid's.
abbrev pub off_grid : List (List Fp) → ℕ → ℕ → Option Crossing → Bool
off_grid grid receiver against None = false
off_grid grid receiver against (Some told) = not (same_crossing told (crossing_on grid receiver against))

abbrev pub shown_if : Bool → Pair → Option Pair
shown_if true pair = Some pair
shown_if false pair = None

abbrev pub reveal_of : ℕ → List (List Fp) → (ℕ → Option Crossing) → ℕ → Option Pair
reveal_of receivers grid complaint receiver = shown_if (anyone receivers (λ k. off_grid grid receiver k (complaint k))) (pair_on grid receiver)

-- The vote has three conditions. Second: k's revealed pair, where there is one, has at j's point the swapped values
-- of j's pair at k's point.
abbrev pub fits : ℕ → Pair → ℕ → Option Pair → Bool
fits receiver mine other None = true
fits receiver mine other (Some theirs) = same_crossing (at_point theirs receiver) (swapped (at_point mine other))

-- Third: two receivers that complain of each other, and of whom none is revealed, tell the same values, swapped.
-- For one receiver twice this says that a complaint of itself tells one value twice.
abbrev pub told_same : Option Crossing → Option Crossing → Bool
told_same (Some mine) (Some theirs) = same_crossing mine (swapped theirs)
told_same None theirs = true
told_same (Some mine) None = true

abbrev pub settled : Option Pair → Option Pair → Option Crossing → Option Crossing → Bool
settled None None mine theirs = told_same mine theirs
settled (Some pair) other mine theirs = true
settled None (Some other) mine theirs = true

-- First: the receiver itself is not revealed. complaint k l is what k complains of l, shown k is k's revealed pair.
abbrev pub votes_yes : ℕ → (ℕ → ℕ → Option Crossing) → (ℕ → Option Pair) → ℕ → Pair → Bool
votes_yes receivers complaint shown receiver mine =
    is_none (shown receiver)
    && (everyone receivers (λ k. fits receiver mine k (shown k))
    && everyone receivers (λ k. everyone receivers (λ l. settled (shown k) (shown l) (complaint k l) (complaint l k))))

-- The acceptance: at least receivers - bound votes are yes.
abbrev pub enough : ℕ → ℕ → (ℕ → Bool) → Bool
enough receivers bound vote = leb (receivers - bound) (how_many receivers vote)

-- The result: the revealed pair, else the held one; two zero polynomials where the instance is not accepted.
abbrev pub revealed_or : Option Pair → Pair → Pair
revealed_or None mine = mine
revealed_or (Some pair) mine = pair

abbrev pub kept_of : Bool → Option Pair → Pair → Pair
kept_of true shown mine = revealed_or shown mine
kept_of false shown mine = zero_pair
