-- A further holder that agrees with enough holders is on their grid; and what adding a product changes.
use Rattle.std.proofs.Common.{◌≡◌, suc, ◌≤◌, List, [], ◌∷◌, length, refl, sym, ap, ◌∙◌, arith}
use Rattle.algebra61.specs.Field.{Fp, ◌+ₚ◌, ◌-ₚ◌, zeroₚ, oneₚ}
use Rattle.algebra61.specs.Poly.{eval, Distinct, AllRoots}
pub use Rattle.algebra61.specs.Grid.{FacedBy}
use Rattle.algebra61.specs.Grid.{row, column, grid_at, AllShort, Holder, Facing, holder_points, OnGrid, AllOnGrid, add_product}
use Rattle.algebra61.proofs.Ring.{sub_self, mul_zero, zero_mul, one_mul, add_zero}
use Rattle.algebra61.proofs.PolyOps.{sub_list, eval-sub}
use Rattle.algebra61.proofs.Grid.{eval-column, length-column, same_everywhere, length-holder_points}
use Rattle.algebra61.proofs.Ext.{at_add_product}

down_roots : (g : List (List Fp)) (m : Holder) (ms : List Holder) → AllOnGrid g ms → Facing m ms → AllRoots (sub_list (column g m.at) m.down) (holder_points ms)
down_roots g m [] o f = tt
down_roots g m (n ∷ ns) o f =
    let here : eval (column g m.at) n.at ≡ eval m.down n.at = eval-column g m.at n.at ∙ o.0.across m.at ∙ f.0 in
    (eval-sub (column g m.at) m.down n.at ∙ ap (λ v. v -ₚ eval m.down n.at) here ∙ sub_self (eval m.down n.at), down_roots g m ns o.1 f.1)

across_roots : (g : List (List Fp)) (m : Holder) (ms : List Holder) → AllOnGrid g ms → FacedBy m ms → AllRoots (sub_list (row g m.at) m.across) (holder_points ms)
across_roots g m [] o f = tt
across_roots g m (n ∷ ns) o f =
    let here : eval (row g m.at) n.at ≡ eval m.across n.at = sym (eval-column g n.at m.at) ∙ o.0.down m.at ∙ f.0 in
    (eval-sub (row g m.at) m.across n.at ∙ ap (λ v. v -ₚ eval m.across n.at) here ∙ sub_self (eval m.across n.at), across_roots g m ns o.1 f.1)

length-row : (g : List (List Fp)) (i : Fp) → length (row g i) ≡ length g
length-row [] i = refl
length-row (p ∷ ps) i = ap suc (length-row ps i)

pub further : (g : List (List Fp)) (m : Holder) (ms : List Holder) → Distinct (holder_points ms) → length g ≤ length ms → AllShort (length ms) g → AllOnGrid g ms →
    length m.across ≤ length ms → length m.down ≤ length ms → Facing m ms → FacedBy m ms → OnGrid g m
further g m ms d lg sg o la ld f b = record {
  across = same_everywhere (row g m.at) m.across (holder_points ms) d (omega (arith, length-row g m.at, length-holder_points ms)) (omega (arith, length-holder_points ms)) (across_roots g m ms o b);
  down = same_everywhere (column g m.at) m.down (holder_points ms) d (omega (arith, length-column (length ms) g m.at sg, length-holder_points ms)) (omega (arith, length-holder_points ms)) (down_roots g m ms o f);
}

-- ---- what adding u (x) * v (y) changes
pub row_keeps : (g : List (List Fp)) (u v : List Fp) (i x : Fp) → eval v i ≡ zeroₚ → eval (row (add_product g u v) i) x ≡ eval (row g i) x
row_keeps g u v i x h = at_add_product g u v x i ∙ rw h (simp (mul_zero, add_zero))

pub column_keeps : (g : List (List Fp)) (u v : List Fp) (i y : Fp) → eval u i ≡ zeroₚ → eval (column (add_product g u v) i) y ≡ eval (column g i) y
column_keeps g u v i y h =
    eval-column (add_product g u v) i y ∙ at_add_product g u v i y ∙ rw h (simp (zero_mul, add_zero)) ∙ sym (eval-column g i y)

pub share_rises : (g : List (List Fp)) (u v : List Fp) (j : Fp) → eval u zeroₚ ≡ oneₚ → grid_at (add_product g u v) zeroₚ j ≡ grid_at g zeroₚ j +ₚ eval v j
share_rises g u v j h = at_add_product g u v zeroₚ j ∙ rw h (ap (λ c. grid_at g zeroₚ j +ₚ c) (one_mul (eval v j)))
