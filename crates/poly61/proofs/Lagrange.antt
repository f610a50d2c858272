-- The weights of interpolation.
use Rattle.std.proofs.Common.{◌≡◌, ℕ, suc, ◌+◌, ◌<◌, ◌≤◌, ◌⊎◌, inl, inr, List, [], ◌∷◌, ◌++◌, length, drop, get_or, refl, sym, ap, ap₂, ◌∙◌, subst, arith, drop-cons, add-one}
use Rattle.std.proofs.lemmas.List.{append_assoc, append-nil, drop_all}
use Rattle.algebra61.specs.Field.{Fp, ◌+ₚ◌, ◌*ₚ◌, ◌-ₚ◌, zeroₚ, oneₚ}
use Rattle.algebra61.specs.Inverse.{invₚ}
use Rattle.algebra61.specs.Poly.{eval, Distinct, dot, values, WeighsAt}
use Rattle.algebra61.proofs.Ring.{dif-same, difs, by_dif3, mul_assocₚ, mul_one, mul_zero, add_zero}
use Rattle.algebra61.proofs.Inverse.{same_or_not, inverse_is}
use Rattle.algebra61.proofs.Interpolate.{vanish, eval-vanish, vanish_outside}
use Rattle.algebra61.proofs.Dual.{unless, others, outside_others, weight, lagrange, eval_term, lagrange_short, lagrange_roots}
use Rattle.algebra61.proofs.Grid.{same_everywhere}

-- ---- the product of the differences
skip_one : (x z y : Fp) (zs : List Fp) (d : (x ≡ z) ⊎ (x ≡ z → ⊥)) → z ≡ x → eval (vanish (unless d z zs)) y ≡ eval (vanish zs) y
skip_one x z y zs (inl e) h = refl
skip_one x z y zs (inr n) h = absurd (n (sym h))

take_one : (x z y : Fp) (zs : List Fp) (d : (x ≡ z) ⊎ (x ≡ z → ⊥)) → (z ≡ x → ⊥) → eval (vanish (unless d z zs)) y ≡ (y -ₚ z) *ₚ eval (vanish zs) y
take_one x z y zs (inl e) h = absurd (h (sym e))
take_one x z y zs (inr n) h = eval-vanish z y zs

pub skipped : (xs : List Fp) (k : ℕ) (x y z u r : Fp) → k < length xs → z ≡ get_or xs k z → z ≡ x → u *ₚ eval (vanish (others x (drop k xs))) y ≡ r →
    u *ₚ eval (vanish (others x (drop (k + 1) xs))) y ≡ r
skipped xs k x y z u r lt here h e =
    rw add-one (ap (λ v. u *ₚ v) (sym (skip_one x (get_or xs k z) y (others x (drop (suc k) xs)) (same_or_not x (get_or xs k z)) (sym here ∙ h)))
    ∙ ap (λ l. u *ₚ eval (vanish (others x l)) y) (sym (drop-cons xs k z lt)) ∙ e)

pub taken : (xs : List Fp) (k : ℕ) (x y z u r : Fp) → k < length xs → z ≡ get_or xs k z → (z ≡ x → ⊥) → u *ₚ eval (vanish (others x (drop k xs))) y ≡ r →
    (u *ₚ (y -ₚ z)) *ₚ eval (vanish (others x (drop (k + 1) xs))) y ≡ r
taken xs k x y z u r lt here h e =
    rw add-one (mul_assocₚ u (y -ₚ z) (eval (vanish (others x (drop (suc k) xs))) y)
    ∙ ap (λ w. u *ₚ ((y -ₚ w) *ₚ eval (vanish (others x (drop (suc k) xs))) y)) here
    ∙ ap (λ v. u *ₚ v) (sym (take_one x (get_or xs k z) y (others x (drop (suc k) xs)) (same_or_not x (get_or xs k z)) (λ g. h (here ∙ g))))
    ∙ ap (λ l. u *ₚ eval (vanish (others x l)) y) (sym (drop-cons xs k z lt)) ∙ e)

pub differences_end : (xs : List Fp) (k : ℕ) (x y u r : Fp) → length xs ≤ k → u *ₚ eval (vanish (others x (drop k xs))) y ≡ r → u ≡ r
differences_end xs k x y u r le e =
    sym (mul_one u) ∙ ap (λ v. u *ₚ v) (sym (simp (mul_zero, add_zero)))
    ∙ ap (λ l. u *ₚ eval (vanish (others x l)) y) (sym (drop_all k xs le)) ∙ e

-- ---- the weights
abbrev pub weights_to : List Fp → List Fp → Fp → List Fp
weights_to all [] y = []
weights_to all (x ∷ xs) y = (eval (vanish (others x all)) y *ₚ invₚ (eval (vanish (others x all)) x)) ∷ weights_to all xs y

pub below_apart : (all : List Fp) (x b : Fp) → b ≡ eval (vanish (others x all)) x → b ≡ zeroₚ → ⊥
below_apart all x b e z = vanish_outside x (others x all) (outside_others x all) (sym e ∙ z)

pub one_more : (all w v : List Fp) (k : ℕ) (x y b i t : Fp) → k < length all → x ≡ get_or all k x → b ≡ eval (vanish (others x all)) x → b *ₚ i ≡ oneₚ → t ≡ eval (vanish (others x all)) y →
    w ++ weights_to all (drop k all) y ≡ weights_to all all y → v ≡ w ++ (t *ₚ i) ∷ [] → v ++ weights_to all (drop (k + 1) all) y ≡ weights_to all all y
one_more all w v k x y b i t lt here hb hi ht e ev =
    let weighed : t *ₚ i ≡ eval (vanish (others x all)) y *ₚ invₚ (eval (vanish (others x all)) x) =
    ap₂ (λ u v. u *ₚ v) ht (inverse_is b i (below_apart all x b hb) hi ∙ ap invₚ hb) in
    rw (ev, add-one) (append_assoc w ((t *ₚ i) ∷ []) (weights_to all (drop (suc k) all) y) ∙ ap (λ u. w ++ u ∷ weights_to all (drop (suc k) all) y) weighed
    ∙ ap (λ z. w ++ (eval (vanish (others z all)) y *ₚ invₚ (eval (vanish (others z all)) z)) ∷ weights_to all (drop (suc k) all) y) here
    ∙ ap (λ l. w ++ weights_to all l y) (sym (drop-cons all k x lt)) ∙ e)

length-weights : (all xs : List Fp) (y : Fp) → length (weights_to all xs y) ≡ length xs
length-weights all [] y = refl
length-weights all (x ∷ xs) y = ap suc (length-weights all xs y)

weight_ring : (e w q : Fp) → (e *ₚ w) *ₚ q ≡ (w *ₚ q) *ₚ e
weight_ring = by_dif3 _ (λ m n k. simp difs (dif-same _ _ _ _ (omega arith)))

weigh : (all xs q : List Fp) (y : Fp) → dot (weights_to all xs y) (values q xs) ≡ eval (lagrange all xs q) y
unfolding weight
weigh all [] q y = refl
weigh all (x ∷ xs) q y =
    ap₂ (λ u v. u +ₚ v) (weight_ring (eval (vanish (others x all)) y) (invₚ (eval (vanish (others x all)) x)) (eval q x)) (weigh all xs q y)
    ∙ sym (eval_term all x y xs q)

-- the values of a short polynomial, weighed, give its value
pub weighs_at : (all : List Fp) (y : Fp) → Distinct all → WeighsAt y all (weights_to all all y)
weighs_at all y d = record {
  long = length-weights all all y;
  weighs = λ q le. weigh all all q y
      ∙ sym (same_everywhere q (lagrange all all q) all d le (lagrange_short all all q (λ z i. i) d) (lagrange_roots all all q (λ z i. i) d) y);
}

pub weights_end : (all w : List Fp) (k : ℕ) (y : Fp) → Distinct all → length all ≤ k → w ++ weights_to all (drop k all) y ≡ weights_to all all y → WeighsAt y all w
weights_end all w k y d le e =
    let same : w ≡ weights_to all all y = sym (append-nil w) ∙ ap (λ l. w ++ weights_to all l y) (sym (drop_all k all le)) ∙ e in
    subst (WeighsAt y all) (sym same) (weighs_at all y d)
