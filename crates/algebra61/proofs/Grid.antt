-- d + 1 members that agree where they cross determine one grid.
use Rattle.std.proofs.Common.{◌≡◌, ℕ, zero, suc, ◌+◌, ◌≤◌, List, [], ◌∷◌, length, refl, sym, ap, ◌∙◌, subst, arith, ap₂, ◌⊎◌, inl, inr}
use Rattle.algebra61.specs.Field.{Fp, ◌+ₚ◌, ◌*ₚ◌, ◌-ₚ◌, zeroₚ}
use Rattle.algebra61.specs.Poly.{eval, coeff, Distinct, AllRoots, Point, points, Passes, scale_list}
use Rattle.algebra61.specs.Grid.{row, column, grid_at, AllShort, Degree, Holder, Facing, EachFacing, holder_points, AllWithin, OnGrid, AllOnGrid}
use Rattle.algebra61.proofs.Ring.{mul_zero, add_zero, sub_self, zero_sub}
use Rattle.algebra61.proofs.PolyOps.{eval-add, eval-scale, eval-sub, length-add, length-scale, length-sub, sub_list}
use Rattle.algebra61.proofs.Roots.{too_many_roots, eval-all_zero}
use Rattle.algebra61.proofs.Interpolate.{newton, newton_passes, length-newton}

-- a column's value is the grid's
pub eval-column : (g : List (List Fp)) (x y : Fp) → eval (column g x) y ≡ grid_at g x y
eval-column [] x y = refl
eval-column (p ∷ ps) x y =
    eval-add p _ y ∙ ap (λ v. eval p y +ₚ v) (eval-scale x (column ps x) y) ∙ ap (λ v. eval p y +ₚ x *ₚ v) (eval-column ps x y)

pub length-column : (n : ℕ) (g : List (List Fp)) (x : Fp) → AllShort n g → length (column g x) ≤ n
length-column n [] x s = omega arith
length-column n (p ∷ ps) x s = omega (arith, s.0, length-add p (scale_list x (column ps x)), length-scale x (column ps x), length-column n ps x s.1)

-- the coefficients of x^a of all rows, with the members' points
abbrev pub slice : ℕ → List Holder → List Point
slice a [] = []
slice a (m ∷ ms) = record { at = m.at; value = coeff m.across a } ∷ slice a ms

points-slice : (a : ℕ) (ms : List Holder) → points (slice a ms) ≡ holder_points ms
points-slice a [] = refl
points-slice a (m ∷ ms) = ap (λ xs. m.at ∷ xs) (points-slice a ms)

length-slice : (a : ℕ) (ms : List Holder) → length (slice a ms) ≡ length ms
length-slice a [] = refl
length-slice a (m ∷ ms) = ap suc (length-slice a ms)

-- the grid, from the power a on, with k coefficients
abbrev pub grid_from : ℕ → ℕ → List Holder → List (List Fp)
grid_from zero a ms = []
grid_from (suc k) a ms = newton (slice a ms) ∷ grid_from k (suc a) ms

abbrev pub coeffs_from : ℕ → ℕ → List Fp → List Fp
coeffs_from zero a p = []
coeffs_from (suc k) a p = coeff p a ∷ coeffs_from k (suc a) p

-- m stands in ms
abbrev pub In : Holder → List Holder → Type 0
In m [] = ⊥
In m (n ∷ ns) = (m ≡ n) ⊎ In m ns

passes_in : (a : ℕ) (m : Holder) (ms : List Holder) (p : List Fp) → In m ms → Passes p (slice a ms) → eval p m.at ≡ coeff m.across a
passes_in a m [] p i h = absurd i
passes_in a m (n ∷ ns) p (inl e) h = ap (λ (x : Holder). eval p x.at) e ∙ h.0 ∙ ap (λ (x : Holder). coeff x.across a) (sym e)
passes_in a m (n ∷ ns) p (inr i) h = passes_in a m ns p i h.1

row_of_grid : (k a : ℕ) (m : Holder) (ms : List Holder) → Distinct (holder_points ms) → In m ms → row (grid_from k a ms) m.at ≡ coeffs_from k a m.across
row_of_grid zero a m ms d i = refl
row_of_grid (suc k) a m ms d i =
    ap₂ (λ (c : Fp) (cs : List Fp). c ∷ cs)
    (passes_in a m ms (newton (slice a ms)) i (newton_passes (slice a ms) (subst Distinct (sym (points-slice a ms)) d)))
    (row_of_grid k (suc a) m ms d i)

-- the coefficients from the first on are the list, with zeros
coeffs_next : (k a : ℕ) (c : Fp) (p : List Fp) → coeffs_from k (suc a) (c ∷ p) ≡ coeffs_from k a p
coeffs_next zero a c p = refl
coeffs_next (suc k) a c p = ap (λ cs. coeff p a ∷ cs) (coeffs_next k (suc a) c p)

eval_coeffs_nil : (k a : ℕ) (x : Fp) → eval (coeffs_from k a []) x ≡ zeroₚ
eval_coeffs_nil zero a x = refl
eval_coeffs_nil (suc k) a x = rw (eval_coeffs_nil k (suc a) x) (simp (mul_zero, add_zero))

pub eval_coeffs : (k : ℕ) (p : List Fp) (x : Fp) → length p ≤ k → eval (coeffs_from k 0 p) x ≡ eval p x
eval_coeffs k [] x le = eval_coeffs_nil k 0 x
eval_coeffs zero (c ∷ p) x le = absurd (omega arith)
eval_coeffs (suc k) (c ∷ p) x le = ap (λ cs. c +ₚ x *ₚ eval cs x) (coeffs_next k 0 c p) ∙ ap (λ v. c +ₚ x *ₚ v) (eval_coeffs k p x (omega (arith, le)))

grid_short : (k a : ℕ) (ms : List Holder) → AllShort (length ms) (grid_from k a ms)
grid_short zero a ms = tt
grid_short (suc k) a ms = (omega (arith, length-newton (slice a ms), length-slice a ms), grid_short k (suc a) ms)

length-grid : (k a : ℕ) (ms : List Holder) → length (grid_from k a ms) ≡ k
length-grid zero a ms = refl
length-grid (suc k) a ms = ap suc (length-grid k (suc a) ms)

-- rows
pub row_is : (k : ℕ) (m : Holder) (ms : List Holder) → Distinct (holder_points ms) → In m ms → length m.across ≤ k → (x : Fp) → eval (row (grid_from k 0 ms) m.at) x ≡ eval m.across x
row_is k m ms d i le x = ap (λ cs. eval cs x) (row_of_grid k 0 m ms d i) ∙ eval_coeffs k m.across x le

-- columns: the grid's column at m has the values of m's at each member
column_roots : (k : ℕ) (m : Holder) (all ms : List Holder) → ((n : Holder) → In n ms → In n all) → ((n : Holder) → In n all → length n.across ≤ k) → Distinct (holder_points all) → Facing m ms →
    AllRoots (sub_list (column (grid_from k 0 all) m.at) m.down) (holder_points ms)
column_roots k m all [] into le d f = tt
column_roots k m all (n ∷ ns) into le d f =
    let here : In n all = into n (inl refl) in
    let col : eval (column (grid_from k 0 all) m.at) n.at ≡ eval m.down n.at =
    eval-column (grid_from k 0 all) m.at n.at ∙ row_is k n all d here (le n here) m.at ∙ f.0 in (
      eval-sub (column (grid_from k 0 all) m.at) m.down n.at ∙ ap (λ v. v -ₚ eval m.down n.at) col ∙ sub_self (eval m.down n.at),
      column_roots k m all ns (λ x i. into x (inr i)) le d f.1,
    )

pub same_everywhere : (p q xs : List Fp) → Distinct xs → length p ≤ length xs → length q ≤ length xs → AllRoots (sub_list p q) xs → (y : Fp) → eval p y ≡ eval q y
same_everywhere p q xs d lp lq r y =
    zero_sub _ _ (sym (eval-sub p q y) ∙ eval-all_zero (sub_list p q) y (too_many_roots (sub_list p q) xs (omega (arith, length-sub p q)) d r))

pub length-holder_points : (ms : List Holder) → length (holder_points ms) ≡ length ms
length-holder_points [] = refl
length-holder_points (m ∷ ms) = ap suc (length-holder_points ms)

pub on_grid : (m : Holder) (ms : List Holder) → Distinct (holder_points ms) → ((n : Holder) → In n ms → (length n.across ≤ length ms) × (length n.down ≤ length ms)) → In m ms → Facing m ms → OnGrid (grid_from (length ms) 0 ms) m
on_grid m ms d le i f = record {
  across = row_is (length ms) m ms d i (le m i).0;
  down = same_everywhere _ m.down (holder_points ms) d
      (omega (arith, length-column (length ms) (grid_from (length ms) 0 ms) m.at (grid_short (length ms) 0 ms), length-holder_points ms))
      (omega (arith, (le m i).1, length-holder_points ms))
      (column_roots (length ms) m ms ms (λ n j. j) (λ n j. (le n j).0) d f);
}

within_in : (k : ℕ) (ms : List Holder) → AllWithin k ms → (n : Holder) → In n ms → (length n.across ≤ k) × (length n.down ≤ k)
within_in k [] w n i = absurd i
within_in k (m ∷ ms) w n (inl e) = subst (λ (x : Holder). (length x.across ≤ k) × (length x.down ≤ k)) (sym e) w.0
within_in k (m ∷ ms) w n (inr i) = within_in k ms w.1 n i

all_on : (ms all : List Holder) → Distinct (holder_points all) → AllWithin (length all) all → ((n : Holder) → In n ms → In n all) → EachFacing ms all → AllOnGrid (grid_from (length all) 0 all) ms
all_on [] all d w into f = tt
all_on (m ∷ ms) all d w into f =
    (on_grid m all d (within_in (length all) all w) (into m (inl refl)) f.0, all_on ms all d w (λ n i. into n (inr i)) f.1)

-- the theorem: d + 1 members that agree where they cross lie on one grid of degree at most d
pub crossing : (d : ℕ) (ms : List Holder) → length ms ≡ d + 1 → Distinct (holder_points ms) → AllWithin (d + 1) ms → EachFacing ms ms →
    (g : List (List Fp)) × Degree d g × AllOnGrid g ms
crossing d ms n dist w f = (
  grid_from (length ms) 0 ms,
  record { in_x = omega (arith, length-grid (length ms) 0 ms); in_y = subst (λ k. AllShort k (grid_from (length ms) 0 ms)) n (grid_short (length ms) 0 ms) },
  all_on ms ms dist (subst (λ k. AllWithin k ms) (sym n) w) (λ m i. i) f,
)
