-- The points 1 to n as a list, the greatest first, as the algebra's laws want them.
use Rattle.std.proofs.Common.{◌≡◌, ℕ, zero, suc, ◌+◌, ◌<◌, ◌≤◌, ◌⊎◌, inl, inr, Bool, true, false, cond, eqb, List, [], ◌∷◌, length, map, refl, sym, ap, ap₂, ◌∙◌, subst, arith}
use Rattle.std.specs.List.{range_with_len}
use Rattle.std.proofs.lemmas.Bool.{eq-eqb, ne_eqb, cases_eq}
use Rattle.algebra61.specs.Field.{Fp, Prime, fe, zeroₚ, oneₚ, powₚ, ◌+ₚ◌, ◌-ₚ◌, ◌*ₚ◌}
use Rattle.algebra61.specs.Inverse.{invₚ}
use Rattle.algebra61.specs.Poly.{eval, Outside, Distinct, Passes, Point, points}
use Rattle.algebra61.proofs.Ring.{mul_zero, add_zero, mul_one, mul_commut, add_commut, num-fe_small, dif-same, difs, by_dif3}
use Rattle.algebra61.proofs.Inverse.{same_or_not}
use Rattle.algebra61.proofs.Pow.{pow_next, pow_zero}
use Rattle.algebra61.proofs.Interpolate.{vanish, eval-vanish}
use Rattle.algebra61.proofs.Dual.{unless, others, weight, weighted}
use Rattle.algebra61.proofs.Checks.{check, live, live_one, In}
use Rattle.algebra61.proofs.Ext.{points_to, points_distinct}
use Rattle.checks61.specs.Checks.{sum_to, others_product, check_entry, nonzero_to}

-- ---- numbers below Prime are one element only where they are one number
pub fe_same : (i j : ℕ) → i < Prime → j < Prime → fe i ≡ fe j → i ≡ j
fe_same i j hi hj e = omega (arith, num-fe_small i hi, num-fe_small j hj, ap (λ (x : Fp). x.num) e)

pub fe_differ : (i j : ℕ) → i < Prime → j < Prime → (i ≡ j → ⊥) → fe i ≡ fe j → ⊥
fe_differ i j hi hj n e = n (fe_same i j hi hj e)

-- ---- the points from a on, ascending
outside_from : (j a n : ℕ) → j < a → a + n ≤ Prime → Outside (fe j) (map fe (range_with_len a n))
outside_from j a zero lt le = tt
outside_from j a (suc n) lt le =
    (fe_differ j a (omega (arith, lt, le)) (omega (arith, le)) (λ e. omega (arith, e, lt)), outside_from j (a + 1) n (omega (arith, lt)) (omega (arith, le)))

pub distinct_from : (a n : ℕ) → a + n ≤ Prime → Distinct (map fe (range_with_len a n))
distinct_from a zero le = tt
distinct_from a (suc n) le = (outside_from a (a + 1) n (omega arith) (omega (arith, le)), distinct_from (a + 1) n (omega (arith, le)))

-- ---- the product over the points other than one
one_less : (x z y : Fp) (zs : List Fp) (b : Bool) (d : (x ≡ z) ⊎ (x ≡ z → ⊥)) → (x ≡ z → b ≡ true) → ((x ≡ z → ⊥) → b ≡ false) →
    eval (vanish (unless d z zs)) y ≡ eval (vanish zs) y *ₚ cond b oneₚ (y -ₚ z)
one_less x z y zs b (inl e) h k = sym (ap (λ (c : Bool). eval (vanish zs) y *ₚ cond c oneₚ (y -ₚ z)) (h e) ∙ mul_one (eval (vanish zs) y))
one_less x z y zs b (inr n) h k =
    eval-vanish z y zs ∙ mul_commut (y -ₚ z) (eval (vanish zs) y) ∙ sym (ap (λ (c : Bool). eval (vanish zs) y *ₚ cond c oneₚ (y -ₚ z)) (k n))

pub others_is : (n i : ℕ) (y : Fp) → i < Prime → n < Prime → eval (vanish (others (fe i) (points_to n))) y ≡ others_product n i y
others_is zero i y hi hn = simp (mul_zero, add_zero)
others_is (suc n) i y hi hn =
    one_less (fe i) (fe (suc n)) y (others (fe i) (points_to n)) (eqb (suc n) i) (same_or_not (fe i) (fe (suc n)))
    (λ e. eq-eqb (suc n) i (sym (fe_same i (suc n) hi hn e)))
    (λ ne. ne_eqb (suc n) i (λ e. ne (ap fe (sym e))))
    ∙ ap (λ v. v *ₚ cond (eqb (suc n) i) oneₚ (y -ₚ fe (suc n))) (others_is n i y hi (omega (arith, hn)))

pub weight_is : (n i : ℕ) → i < Prime → n < Prime → weight (points_to n) (fe i) ≡ invₚ (others_product n i (fe i))
unfolding weight
weight_is n i hi hn = ap invₚ (others_is n i (fe i) hi hn)

-- ---- the points 1 to n with their values
abbrev pub with_values : ℕ → (ℕ → Fp) → List Point
with_values zero v = []
with_values (suc n) v = record { at = fe (suc n); value = v (suc n) } ∷ with_values n v

pub points-with_values : (n : ℕ) (v : ℕ → Fp) → points (with_values n v) ≡ points_to n
points-with_values zero v = refl
points-with_values (suc n) v = ap (λ xs. fe (suc n) ∷ xs) (points-with_values n v)

pub length-with_values : (n : ℕ) (v : ℕ → Fp) → length (with_values n v) ≡ n
length-with_values zero v = refl
length-with_values (suc n) v = ap suc (length-with_values n v)

pub distinct_values : (n : ℕ) (v : ℕ → Fp) → n < Prime → Distinct (points (with_values n v))
distinct_values n v h = subst Distinct (sym (points-with_values n v)) (points_distinct n h)

pub in_values : (n i : ℕ) (v : ℕ → Fp) → 1 ≤ i → i ≤ n → In (record { at = fe i; value = v i }) (with_values n v)
in_values zero i v a b = absurd (omega arith)
in_values (suc n) i v a b =
    elim (cases_eq i (suc n)) [
      | inl e ↦ inl (ap (λ (k : ℕ). let p : Point = record { at = fe k; value = v k } in p) e)
      | inr ne ↦ inr (in_values n i v a (omega (arith, ne)))
    ]

-- a polynomial that has their values
pub passes_at : (n i : ℕ) (v : ℕ → Fp) (r : List Fp) → Passes r (with_values n v) → 1 ≤ i → i ≤ n → eval r (fe i) ≡ v i
passes_at zero i v r p a b = absurd (omega arith)
passes_at (suc n) i v r p a b =
    elim (cases_eq i (suc n)) [
      | inl e ↦ subst (λ k. eval r (fe k) ≡ v k) (sym e) p.0
      | inr ne ↦ passes_at n i v r p.1 a (omega (arith, ne))
    ]

live_count : (b : Bool) (x : Fp) (xs : List Fp) (k : ℕ) → length xs ≡ k → length (live_one b x xs) ≡ k + cond b 0 1
live_count true x xs k e = omega (arith, e)
live_count false x xs k e = omega (arith, e)

pub live_is : (n : ℕ) (v : ℕ → Fp) → length (live (with_values n v)) ≡ nonzero_to n v
live_is zero v = refl
live_is (suc n) v = live_count (eqb (v (suc n)).num 0) (fe (suc n)) (live (with_values n v)) (nonzero_to n v) (live_is n v)

-- a check of the list is one of the vector
pub check_is : (all n m : ℕ) (v : ℕ → Fp) → all < Prime → n ≤ all → check (points_to all) m (with_values n v) ≡ sum_to n (λ i. check_entry all m i *ₚ v i)
check_is all zero m v h le = refl
check_is all (suc n) m v h le =
    add_commut ((weight (points_to all) (fe (suc n)) *ₚ powₚ (fe (suc n)) m) *ₚ v (suc n)) (check (points_to all) m (with_values n v))
    ∙ ap₂ (λ a b. a +ₚ b) (check_is all n m v h (omega arith))
    (ap (λ w. (w *ₚ powₚ (fe (suc n)) m) *ₚ v (suc n)) (weight_is all (suc n) (omega (arith, h, le)) h))

-- ---- a polynomial times x^m
abbrev pub raised : ℕ → List Fp → List Fp
raised zero q = q
raised (suc m) q = zeroₚ ∷ raised m q

pub length-raised : (m : ℕ) (q : List Fp) → length (raised m q) ≡ m + length q
length-raised zero q = omega arith
length-raised (suc m) q = omega (arith, length-raised m q)

raise_ring : (x p v : Fp) → zeroₚ +ₚ x *ₚ (p *ₚ v) ≡ (x *ₚ p) *ₚ v
raise_ring = by_dif3 _ (λ m n k. simp difs (dif-same _ _ _ _ (omega arith)))

one_ring : (v : Fp) → v ≡ oneₚ *ₚ v
one_ring v = sym (mul_commut oneₚ v ∙ mul_one v)

pub eval-raised : (m : ℕ) (q : List Fp) (x : Fp) → eval (raised m q) x ≡ powₚ x m *ₚ eval q x
eval-raised zero q x = one_ring (eval q x) ∙ ap (λ p. p *ₚ eval q x) (sym (pow_zero x))
eval-raised (suc m) q x =
    ap (λ v. zeroₚ +ₚ x *ₚ v) (eval-raised m q x) ∙ raise_ring x (powₚ x m) (eval q x) ∙ ap (λ p. p *ₚ eval q x) (sym (pow_next x m))

swap_ring : (w p v : Fp) → (w *ₚ p) *ₚ v ≡ w *ₚ (p *ₚ v)
swap_ring = by_dif3 _ (λ m n k. simp difs (dif-same _ _ _ _ (omega arith)))

-- row m of the check of q's values is the weighted sum of x^m times q
pub check_values : (all : List Fp) (n m : ℕ) (q : List Fp) → check all m (with_values n (λ i. eval q (fe i))) ≡ weighted all (points_to n) (raised m q)
check_values all zero m q = refl
check_values all (suc n) m q =
    ap₂ (λ a b. a +ₚ b)
    (swap_ring (weight all (fe (suc n))) (powₚ (fe (suc n)) m) (eval q (fe (suc n))) ∙ ap (λ v. weight all (fe (suc n)) *ₚ v) (sym (eval-raised m q (fe (suc n)))))
    (check_values all n m q)
