-- Values of a pair's polynomials, and pairs with equal values.
use Rattle.std.proofs.Common.{◌≡◌, ℕ, suc, ◌+◌, ◌<◌, ◌≤◌, List, [], ◌∷◌, length, refl, sym, ap, ap₂, ◌∙◌, arith}
use Rattle.algebra61.specs.Field.{Fp, Prime, fe}
use Rattle.algebra61.specs.Poly.{eval}
use Rattle.algebra61.specs.Trim.{trim}
use Rattle.algebra61.specs.Polynomial.{Polynomial, poly, same_coeffs}
use Rattle.algebra61.specs.Grid.{row, column, Degree, OnGrid}
use Rattle.algebra61.proofs.Trim.{eval-trim, length-trim}
use Rattle.algebra61.proofs.Ext.{same_values}
use Rattle.algebra61.proofs.Grid.{length-column, eval-column}
use Rattle.sharing61.specs.Rules.{Pair, at_point, pair_on}
use Rattle.sharing61.specs.declared.Crossing.{Crossing}
use Rattle.sharing61.specs.Agreement.{Short}
use Rattle.sharing61.specs.Rules.{crossing_on}

-- ---- the polynomial of a list
pub coeffs-poly : (l : List Fp) → (poly l).coeffs ≡ trim l
unfolding poly
coeffs-poly l = refl

pub eval-poly : (l : List Fp) (x : Fp) → eval (poly l).coeffs x ≡ eval l x
eval-poly l x = ap (λ c. eval c x) (coeffs-poly l) ∙ eval-trim l x

pub length-poly : (l : List Fp) → length (poly l).coeffs ≤ length l
length-poly l = rw coeffs-poly (length-trim l)

-- two short polynomials with the same values are one
pub poly_same : (p q : Polynomial) → length p.coeffs < Prime → length q.coeffs < Prime → ((x : Fp) → eval p.coeffs x ≡ eval q.coeffs x) → p ≡ q
poly_same p q lp lq h = same_coeffs p q (sym p.trimmed ∙ same_values p.coeffs q.coeffs lp lq h ∙ q.trimmed)

-- ---- a grid's row and column
length-row : (g : List (List Fp)) (x : Fp) → length (row g x) ≡ length g
length-row [] x = refl
length-row (p ∷ ps) x = ap suc (length-row ps x)

pub at_pair_on : (g : List (List Fp)) (j k : ℕ) → at_point (pair_on g j) k ≡ crossing_on g j k
at_pair_on g j k =
    ap₂ (λ (a b : Fp). let t : Crossing = record { row = a; column = b } in t)
    (eval-poly (row g (fe j)) (fe k)) (eval-poly (column g (fe j)) (fe k) ∙ eval-column g (fe j) (fe k))

pub short_on : (d : ℕ) (g : List (List Fp)) (j : ℕ) → Degree d g → Short d (pair_on g j)
short_on d g j h = record {
  across = omega (arith, length-poly (row g (fe j)), length-row g (fe j), h.in_x);
  down = omega (arith, length-poly (column g (fe j)), length-column (d + 1) g (fe j) h.in_y);
}

-- a short pair with the values of the grid's is the grid's
pub pair_same : (d : ℕ) (g : List (List Fp)) (j : ℕ) (p : Pair) → Short d p → Degree d g → d + 1 < Prime → OnGrid g (record { at = fe j; across = p.row.coeffs; down = p.column.coeffs }) → p ≡ pair_on g j
pair_same d g j p sp dg small on =
    let sg : Short d (pair_on g j) = short_on d g j dg in
    ap₂ (λ (r c : Polynomial). let q : Pair = record { row = r; column = c } in q)
    (poly_same p.row (poly (row g (fe j))) (omega (arith, sp.across)) (omega (arith, sg.across)) (λ x. sym (eval-poly (row g (fe j)) x ∙ on.across x)))
    (poly_same p.column (poly (column g (fe j))) (omega (arith, sp.down)) (omega (arith, sg.down)) (λ y. sym (eval-poly (column g (fe j)) y ∙ on.down y)))
