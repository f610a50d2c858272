-- The weights at 0.
use Rattle.std.proofs.Common.{◌≡◌, ℕ, zero, suc, ◌+◌, ◌-◌, ◌<◌, ◌≤◌, List, [], ◌∷◌, length, map, get_or, refl, sym, ap, ap₂, ◌∙◌, arith}
use Rattle.std.specs.List.{range_with_len}
use Rattle.std.proofs.lemmas.List.FromFn.{length-map-range_with_len}
use Rattle.algebra61.specs.Field.{Fp, Prime, fe, zeroₚ, ◌+ₚ◌, ◌*ₚ◌}
use Rattle.algebra61.specs.Inverse.{invₚ}
use Rattle.algebra61.specs.Poly.{eval, dot, values, WeighsAt}
use Rattle.algebra61.proofs.Ring.{add_commut, dif-same, difs, by_dif3}
use Rattle.algebra61.proofs.Interpolate.{vanish, newton, length-newton, newton_passes}
use Rattle.algebra61.proofs.Dual.{others, weight, lagrange, eval_term, lagrange_short, lagrange_roots}
use Rattle.algebra61.proofs.Grid.{same_everywhere}
use Rattle.algebra61.proofs.Ext.{points_to, points_distinct}
use Rattle.checks61.specs.Checks.{sum_to, others_product, entry, weight_at_zero}
use Rattle.checks61.specs.Laws.{WeighsAtZero}
use Rattle.checks61.proofs.Sums.{sum_same, sum_first}
use Rattle.checks61.proofs.Points.{others_is, weight_is, with_values, length-with_values, distinct_values, passes_at}

pub length-points_to : (n : ℕ) → length (points_to n) ≡ n
length-points_to zero = refl
length-points_to (suc n) = ap suc (length-points_to n)

weight_ring : (w q e : Fp) → (w *ₚ q) *ₚ e ≡ (e *ₚ w) *ₚ q
weight_ring = by_dif3 _ (λ m n k. simp difs (dif-same _ _ _ _ (omega arith)))

weighs_to : (all n : ℕ) (q : List Fp) → all < Prime → n ≤ all → eval (lagrange (points_to all) (points_to n) q) zeroₚ ≡ sum_to n (λ i. weight_at_zero all i *ₚ eval q (fe i))
weighs_to all zero q h le = refl
weighs_to all (suc n) q h le =
    eval_term (points_to all) (fe (suc n)) zeroₚ (points_to n) q
    ∙ add_commut ((weight (points_to all) (fe (suc n)) *ₚ eval q (fe (suc n))) *ₚ eval (vanish (others (fe (suc n)) (points_to all))) zeroₚ) (eval (lagrange (points_to all) (points_to n) q) zeroₚ)
    ∙ ap₂ (λ a b. a +ₚ b) (weighs_to all n q h (omega arith))
    (ap₂ (λ w e. (w *ₚ eval q (fe (suc n))) *ₚ e) (weight_is all (suc n) (omega (arith, h, le)) h) (others_is all (suc n) zeroₚ (omega (arith, h, le)) h)
    ∙ weight_ring (invₚ (others_product all (suc n) (fe (suc n)))) (eval q (fe (suc n))) (others_product all (suc n) zeroₚ))

pub weighs_at_zero : WeighsAtZero
weighs_at_zero k q h le =
    let xs : List Fp = points_to k in
    sym (weighs_to k k q h (omega arith))
    ∙ sym (same_everywhere q (lagrange xs xs q) xs (points_distinct k h) (omega (arith, le, length-points_to k)) (lagrange_short xs xs q (λ z i. i) (points_distinct k h)) (lagrange_roots xs xs q (λ z i. i) (points_distinct k h)) zeroₚ)

-- ---- weights that are given as a list
dot_from : (w p : List Fp) (b n : ℕ) → length w ≡ n → dot w (values p (map fe (range_with_len (b + 1) n))) ≡ sum_to n (λ i. entry w i *ₚ eval p (fe (b + i)))
dot_from [] p b zero e = refl
dot_from [] p b (suc n) e = absurd (omega (arith, e))
dot_from (x ∷ w) p b zero e = absurd (omega (arith, e))
dot_from (x ∷ w) p b (suc n) e =
    ap (λ v. x *ₚ eval p (fe (b + 1)) +ₚ v)
    (dot_from w p (b + 1) n (omega (arith, e))
    ∙ sum_same n (λ i. entry w i *ₚ eval p (fe ((b + 1) + i))) (λ i. entry (x ∷ w) (suc i) *ₚ eval p (fe (b + suc i)))
    (λ i a c.
    let y : (b + 1) + i ≡ b + suc i = omega arith in
    let q : suc i - 1 ≡ suc (i - 1) = omega (arith, a) in
    ap₂ (λ u v. u *ₚ eval p (fe v)) (sym (ap (λ k. get_or (x ∷ w) k zeroₚ) q)) y))
    ∙ sym (sum_first n (λ i. entry (x ∷ w) i *ₚ eval p (fe (b + i))))

-- whichever weights at 0 of the points 1 to k these are, they give the same sum
pub any_weights : (k : ℕ) (w : List Fp) (v : ℕ → Fp) → k < Prime → WeighsAt zeroₚ (map fe (range_with_len 1 k)) w → sum_to k (λ i. entry w i *ₚ v i) ≡ sum_to k (λ i. weight_at_zero k i *ₚ v i)
any_weights k w v small h =
    let p : List Fp = newton (with_values k v) in
    let short : length p ≤ k = omega (arith, length-newton (with_values k v), length-with_values k v) in
    let at : (i : ℕ) → 1 ≤ i → i ≤ k → eval p (fe i) ≡ v i = λ i a b. passes_at k i v p (newton_passes (with_values k v) (distinct_values k v small)) a b in
    let long : length w ≡ k = omega (arith, h.long, length-map-range_with_len fe 1 k) in
    sum_same k (λ i. entry w i *ₚ v i) (λ i. entry w i *ₚ eval p (fe (0 + i)))
    (λ i a b. let z : 0 + i ≡ i = omega arith in ap (λ y. entry w i *ₚ y) (sym (ap (λ n. eval p (fe n)) z ∙ at i a b)))
    ∙ sym (dot_from w p 0 k long)
    ∙ h.weighs p (omega (arith, short, length-map-range_with_len fe 1 k))
    ∙ sym (weighs_at_zero k p small short)
    ∙ sum_same k (λ i. weight_at_zero k i *ₚ eval p (fe i)) (λ i. weight_at_zero k i *ₚ v i) (λ i a b. ap (λ y. weight_at_zero k i *ₚ y) (at i a b))
