-- A word with a given syndrome, by interpolation of the powers at the first points.
use Rattle.std.proofs.Common.{◌≡◌, ℕ, zero, suc, ◌-◌, ◌<◌, ◌≤◌, inl, inr, ◌⊎◌, Bool, true, false, cond, eqb, ltb, List, [], ◌∷◌, length, refl, sym, ap, ap₂, ◌∙◌, arith}
use Rattle.std.proofs.lemmas.Bool.{cases_eq, eq-eqb, ne_eqb}
use Rattle.std.proofs.lemmas.List.FromFn.{length-map-range_with_len}
use Rattle.algebra61.specs.Field.{Fp, Prime, fe, zeroₚ, oneₚ, negₚ, powₚ, ◌+ₚ◌, ◌-ₚ◌, ◌*ₚ◌}
use Rattle.algebra61.specs.Inverse.{invₚ}
use Rattle.algebra61.specs.Poly.{eval, coeff, add_list, scale_list, mul_list, AllZero, AllRoots}
use Rattle.algebra61.proofs.Ring.{mul_zero, zero_mul, add_zero, zero_add, mul_one, one_mul, mul_commut, sub_self, zero_sub, dif-same, difs, by_dif2, by_dif4, by_dif5}
use Rattle.algebra61.proofs.Inverse.{mul_invₚ, same_or_not}
use Rattle.algebra61.proofs.PolyOps.{sub_list, eval-add, eval-scale, eval-sub, length-add, length-scale, length-sub}
use Rattle.algebra61.proofs.Roots.{too_many_roots}
use Rattle.algebra61.proofs.Interpolate.{vanish, vanish_outside}
use Rattle.algebra61.proofs.Dual.{Among, unless, others, outside_others, others_count, among_others, root_among, length-vanish_exact, coeff-add, coeff-scale, coeff-all_zero}
use Rattle.algebra61.proofs.Ext.{points_to, points_distinct}
use Rattle.checks61.specs.Checks.{sum_to, others_product, check_entry, check_of, syndrome_of}
use Rattle.checks61.specs.Word.{dot_to, others_polynomial, basis, word_entry}
use Rattle.checks61.specs.Laws.{WordHasSyndrome}
use Rattle.checks61.proofs.Sums.{sum_same}
use Rattle.checks61.proofs.Points.{fe_same, fe_differ, others_is, raised, eval-raised, length-raised}
use Rattle.checks61.proofs.Weights.{length-points_to}
use Rattle.checks61.proofs.Errors.{syndrome_at, same_lists}

-- ---- sums of products of coefficients
plus_ring : (a b c d z : Fp) → (a +ₚ b) +ₚ (c +ₚ d) *ₚ z ≡ (a +ₚ c *ₚ z) +ₚ (b +ₚ d *ₚ z)
plus_ring = by_dif5 _ (λ m n k l i. simp difs (dif-same _ _ _ _ (omega arith)))

dot_to-add : (k : ℕ) (p q z : List Fp) → dot_to k (add_list p q) z ≡ dot_to k p z +ₚ dot_to k q z
dot_to-add zero p q z = sym (add_zero zeroₚ)
dot_to-add (suc k) p q z =
    ap₂ (λ a b. a +ₚ b *ₚ coeff z k) (dot_to-add k p q z) (coeff-add p q k)
    ∙ plus_ring (dot_to k p z) (dot_to k q z) (coeff p k) (coeff q k) (coeff z k)

scale_ring : (a b c z : Fp) → a *ₚ b +ₚ (a *ₚ c) *ₚ z ≡ a *ₚ (b +ₚ c *ₚ z)
scale_ring = by_dif4 _ (λ m n k l. simp difs (dif-same _ _ _ _ (omega arith)))

dot_to-scale : (k : ℕ) (a : Fp) (p z : List Fp) → dot_to k (scale_list a p) z ≡ a *ₚ dot_to k p z
dot_to-scale zero a p z = sym (mul_zero a)
dot_to-scale (suc k) a p z =
    ap₂ (λ x y. x +ₚ y *ₚ coeff z k) (dot_to-scale k a p z) (coeff-scale a p k) ∙ scale_ring a (dot_to k p z) (coeff p k) (coeff z k)

same_ring : (a b : Fp) → a -ₚ b ≡ a +ₚ negₚ oneₚ *ₚ b
same_ring = by_dif2 _ (λ m n. simp difs (dif-same _ _ _ _ (omega arith)))

coeff_same : (p q : List Fp) (k : ℕ) → AllZero (sub_list p q) → coeff p k ≡ coeff q k
coeff_same p q k z =
    zero_sub (coeff p k) (coeff q k)
    (same_ring (coeff p k) (coeff q k) ∙ sym (coeff-add p (scale_list (negₚ oneₚ) q) k ∙ ap (λ v. coeff p k +ₚ v) (coeff-scale (negₚ oneₚ) q k)) ∙ coeff-all_zero (sub_list p q) k z)

pub dot_to_same : (k : ℕ) (p q z : List Fp) → ((m : ℕ) → coeff p m ≡ coeff q m) → dot_to k p z ≡ dot_to k q z
dot_to_same zero p q z h = refl
dot_to_same (suc k) p q z h = ap₂ (λ a b. a +ₚ b *ₚ coeff z k) (dot_to_same k p q z h) (h k)

-- x^m as a polynomial
abbrev power : ℕ → List Fp
power m = raised m (oneₚ ∷ [])

next_same : (m k : ℕ) → eqb m k ≡ eqb (suc m) (suc k)
next_same m k =
    elim (cases_eq m k) [
      | inl e ↦ eq-eqb m k e ∙ sym (eq-eqb (suc m) (suc k) (ap suc e))
      | inr ne ↦ ne_eqb m k ne ∙ sym (ne_eqb (suc m) (suc k) (λ e. ne (omega (arith, e))))
    ]

coeff_power : (m k : ℕ) → coeff (power m) k ≡ cond (eqb m k) oneₚ zeroₚ
coeff_power zero zero = refl
coeff_power zero (suc k) = sym (ap (λ (b : Bool). cond b oneₚ zeroₚ) (ne_eqb 0 (suc k) (λ e. omega (arith, e))))
coeff_power (suc m) zero = sym (ap (λ (b : Bool). cond b oneₚ zeroₚ) (ne_eqb (suc m) 0 (λ e. omega (arith, e))))
coeff_power (suc m) (suc k) = coeff_power m k ∙ ap (λ (b : Bool). cond b oneₚ zeroₚ) (next_same m k)

power_term : (b : Bool) (s z : Fp) → s +ₚ cond b oneₚ zeroₚ *ₚ z ≡ s +ₚ cond b z zeroₚ
power_term true s z = ap (λ v. s +ₚ v) (one_mul z)
power_term false s z = ap (λ v. s +ₚ v) (zero_mul z)

past_power : (k m : ℕ) (z : List Fp) → k ≤ m → dot_to k (power m) z ≡ zeroₚ
past_power zero m z le = refl
past_power (suc k) m z le =
    ap₂ (λ a b. a +ₚ b *ₚ coeff z k) (past_power k m z (omega arith)) (coeff_power m k)
    ∙ power_term (eqb m k) zeroₚ (coeff z k) ∙ ap (λ (b : Bool). zeroₚ +ₚ cond b (coeff z k) zeroₚ) (ne_eqb m k (λ e. omega (arith, e, le))) ∙ add_zero zeroₚ

dot_to_power : (k m : ℕ) (z : List Fp) → m < k → dot_to k (power m) z ≡ coeff z m
dot_to_power zero m z lt = absurd (omega arith)
dot_to_power (suc k) m z lt =
    ap (λ b. dot_to k (power m) z +ₚ b *ₚ coeff z k) (coeff_power m k)
    ∙ power_term (eqb m k) (dot_to k (power m) z) (coeff z k)
    ∙ elim (cases_eq m k) [
      | inl e ↦ ap₂ (λ a (b : Bool). a +ₚ cond b (coeff z k) zeroₚ) (past_power k m z (omega (arith, e))) (eq-eqb m k e) ∙ zero_add (coeff z k) ∙ ap (coeff z) (sym e)
      | inr ne ↦ ap₂ (λ a (b : Bool). a +ₚ cond b (coeff z k) zeroₚ) (dot_to_power k m z (omega (arith, ne))) (ne_eqb m k ne) ∙ add_zero (coeff z m)
    ]

-- ---- the basis
among_points : (k i : ℕ) → 1 ≤ i → i ≤ k → Among (fe i) (points_to k)
among_points zero i a b = absurd (omega arith)
among_points (suc k) i a b =
    elim (cases_eq i (suc k)) [ inl e ↦ inl (ap fe e) | inr ne ↦ inr (among_points k i a (omega (arith, ne))) ]

pub apart_point : (k i : ℕ) → eval (vanish (others (fe i) (points_to k))) (fe i) ≡ zeroₚ → ⊥
apart_point k i e = vanish_outside (fe i) (others (fe i) (points_to k)) (outside_others (fe i) (points_to k)) e

pub product_apart : (n i : ℕ) → i < Prime → n < Prime → others_product n i (fe i) ≡ zeroₚ → ⊥
product_apart n i hi h e = apart_point n i (others_is n i (fe i) hi h ∙ e)

-- the product as a polynomial is that of the list of points without i
factor_unless : (x z : Fp) (zs : List Fp) (b : Bool) (d : (x ≡ z) ⊎ (x ≡ z → ⊥)) → (x ≡ z → b ≡ true) → ((x ≡ z → ⊥) → b ≡ false) →
    cond b (vanish zs) (mul_list (negₚ z ∷ oneₚ ∷ []) (vanish zs)) ≡ vanish (unless d z zs)
factor_unless x z zs b (inl e) h k = ap (λ (c : Bool). cond c (vanish zs) (mul_list (negₚ z ∷ oneₚ ∷ []) (vanish zs))) (h e)
factor_unless x z zs b (inr n) h k = ap (λ (c : Bool). cond c (vanish zs) (mul_list (negₚ z ∷ oneₚ ∷ []) (vanish zs))) (k n)

others_polynomial_is : (n i : ℕ) → i < Prime → n < Prime → others_polynomial n i ≡ vanish (others (fe i) (points_to n))
others_polynomial_is zero i hi hn = refl
others_polynomial_is (suc n) i hi hn =
    ap (λ (p : List Fp). cond (eqb (suc n) i) p (mul_list (negₚ (fe (suc n)) ∷ oneₚ ∷ []) p)) (others_polynomial_is n i hi (omega (arith, hn)))
    ∙ factor_unless (fe i) (fe (suc n)) (others (fe i) (points_to n)) (eqb (suc n) i) (same_or_not (fe i) (fe (suc n)))
    (λ e. eq-eqb (suc n) i (sym (fe_same i (suc n) hi hn e)))
    (λ ne. ne_eqb (suc n) i (λ e. ne (ap fe (sym e))))

eval-basis : (k i : ℕ) (y : Fp) → i < Prime → k < Prime → eval (basis k i) y ≡ invₚ (others_product k i (fe i)) *ₚ eval (vanish (others (fe i) (points_to k))) y
eval-basis k i y hi h =
    eval-scale (invₚ (others_product k i (fe i))) (others_polynomial k i) y
    ∙ ap (λ (p : List Fp). invₚ (others_product k i (fe i)) *ₚ eval p y) (others_polynomial_is k i hi h)

pub length-basis : (k i : ℕ) → k < Prime → 1 ≤ i → i ≤ k → length (basis k i) ≤ k
length-basis k i h a b =
    let os : List Fp = others (fe i) (points_to k) in
    omega (
      arith,
      length-scale (invₚ (others_product k i (fe i))) (others_polynomial k i),
      ap length (others_polynomial_is k i (omega (arith, b, h)) h),
      length-vanish_exact os,
      others_count (fe i) (points_to k) (points_distinct k h) (among_points k i a b),
      length-points_to k,
    )

pub basis_here : (k i : ℕ) → i < Prime → k < Prime → eval (basis k i) (fe i) ≡ oneₚ
basis_here k i hi h =
    let product : Fp = others_product k i (fe i) in
    eval-basis k i (fe i) hi h ∙ ap (λ v. invₚ product *ₚ v) (others_is k i (fe i) hi h) ∙ mul_commut (invₚ product) product
    ∙ mul_invₚ product (product_apart k i hi h)

pub basis_there : (k i j : ℕ) → i < Prime → k < Prime → 1 ≤ j → j ≤ k → (i ≡ j → ⊥) → eval (basis k i) (fe j) ≡ zeroₚ
basis_there k i j hi h a b ne =
    let os : List Fp = others (fe i) (points_to k) in
    eval-basis k i (fe j) hi h
    ∙ ap (λ v. invₚ (others_product k i (fe i)) *ₚ v) (root_among (fe j) os (among_others (fe i) (fe j) (points_to k) (fe_differ i j hi (omega (arith, b, h)) ne) (among_points k j a b)))
    ∙ mul_zero (invₚ (others_product k i (fe i)))

-- two polynomials of at most k coefficients with the same values at the points 1 to k
roots_to : (p q : List Fp) (n : ℕ) → ((j : ℕ) → 1 ≤ j → j ≤ n → eval p (fe j) ≡ eval q (fe j)) → AllRoots (sub_list p q) (points_to n)
roots_to p q zero h = tt
roots_to p q (suc n) h =
    (eval-sub p q (fe (suc n)) ∙ ap (λ v. v -ₚ eval q (fe (suc n))) (h (suc n) (omega arith) (omega arith)) ∙ sub_self (eval q (fe (suc n))), roots_to p q n (λ j a b. h j a (omega arith)))

pub same_at_points : (k : ℕ) (p q : List Fp) → k < Prime → length p ≤ k → length q ≤ k → ((j : ℕ) → 1 ≤ j → j ≤ k → eval p (fe j) ≡ eval q (fe j)) → AllZero (sub_list p q)
same_at_points k p q h lp lq e =
    too_many_roots (sub_list p q) (points_to k) (omega (arith, length-sub p q, lp, lq, length-points_to k)) (points_distinct k h) (roots_to p q k e)

-- ---- the powers at the points 1 to n, interpolated
abbrev power_by_basis : ℕ → ℕ → ℕ → List Fp
power_by_basis k m zero = []
power_by_basis k m (suc n) = add_list (power_by_basis k m n) (scale_list (powₚ (fe (suc n)) m) (basis k (suc n)))

length-power_by_basis : (k m n : ℕ) → k < Prime → n ≤ k → length (power_by_basis k m n) ≤ k
length-power_by_basis k m zero h le = omega arith
length-power_by_basis k m (suc n) h le =
    omega (
      arith,
      length-add (power_by_basis k m n) (scale_list (powₚ (fe (suc n)) m) (basis k (suc n))),
      length-scale (powₚ (fe (suc n)) m) (basis k (suc n)),
      length-basis k (suc n) h (omega arith) le,
      length-power_by_basis k m n h (omega (arith, le)),
    )

power_by_basis_step : (k m n j : ℕ) → eval (power_by_basis k m (suc n)) (fe j) ≡ eval (power_by_basis k m n) (fe j) +ₚ powₚ (fe (suc n)) m *ₚ eval (basis k (suc n)) (fe j)
power_by_basis_step k m n j = eval-add (power_by_basis k m n) _ (fe j) ∙ ap (λ v. eval (power_by_basis k m n) (fe j) +ₚ v) (eval-scale (powₚ (fe (suc n)) m) (basis k (suc n)) (fe j))

not_yet : (k m n j : ℕ) → k < Prime → n ≤ k → n < j → j ≤ k → eval (power_by_basis k m n) (fe j) ≡ zeroₚ
not_yet k m zero j h le lt jk = refl
not_yet k m (suc n) j h le lt jk =
    power_by_basis_step k m n j
    ∙ ap₂ (λ a b. a +ₚ powₚ (fe (suc n)) m *ₚ b) (not_yet k m n j h (omega (arith, le)) (omega (arith, lt)) jk)
    (basis_there k (suc n) j (omega (arith, le, h)) h (omega (arith, lt)) jk (λ e. omega (arith, e, lt)))
    ∙ simp (mul_zero, add_zero)

power_by_basis_at : (k m n j : ℕ) → k < Prime → n ≤ k → 1 ≤ j → j ≤ n → eval (power_by_basis k m n) (fe j) ≡ powₚ (fe j) m
power_by_basis_at k m zero j h le a b = absurd (omega arith)
power_by_basis_at k m (suc n) j h le a b =
    power_by_basis_step k m n j
    ∙ elim (cases_eq j (suc n)) [
      | inl e ↦
          ap₂ (λ x y. x +ₚ powₚ (fe (suc n)) m *ₚ y) (not_yet k m n j h (omega (arith, le)) (omega (arith, e)) (omega (arith, e, le)))
          (ap (λ i. eval (basis k (suc n)) (fe i)) e ∙ basis_here k (suc n) (omega (arith, le, h)) h)
          ∙ zero_add (powₚ (fe (suc n)) m *ₚ oneₚ) ∙ mul_one (powₚ (fe (suc n)) m) ∙ ap (λ i. powₚ (fe i) m) (sym e)
      | inr ne ↦
          ap₂ (λ x y. x +ₚ powₚ (fe (suc n)) m *ₚ y) (power_by_basis_at k m n j h (omega (arith, le)) a (omega (arith, ne)))
          (basis_there k (suc n) j (omega (arith, le, h)) h a (omega (arith, b, le)) (λ e. ne (sym e)))
          ∙ simp (mul_zero, add_zero)
    ]

power_at : (m : ℕ) (x : Fp) → eval (power m) x ≡ powₚ x m
power_at m x = eval-raised m (oneₚ ∷ []) x ∙ ap (λ v. powₚ x m *ₚ v) (simp (mul_zero, add_zero)) ∙ mul_one (powₚ x m)

power_by_basis_is : (k m : ℕ) (z : List Fp) → k < Prime → m < k → dot_to k (power_by_basis k m k) z ≡ coeff z m
power_by_basis_is k m z h lt =
    let same : AllZero (sub_list (power_by_basis k m k) (power m)) =
    same_at_points k (power_by_basis k m k) (power m) h (length-power_by_basis k m k h (omega arith)) (omega (arith, length-raised m (oneₚ ∷ []), lt))
    (λ j a b. power_by_basis_at k m k j h (omega arith) a b ∙ sym (power_at m (fe j))) in
    dot_to_same k (power_by_basis k m k) (power m) z (λ j. coeff_same (power_by_basis k m k) (power m) j same) ∙ dot_to_power k m z lt

dot_to-nil : (k : ℕ) (z : List Fp) → dot_to k [] z ≡ zeroₚ
dot_to-nil zero z = refl
dot_to-nil (suc k) z = ap (λ v. v +ₚ zeroₚ *ₚ coeff z k) (dot_to-nil k z) ∙ simp (zero_mul, add_zero)

sum_power_by_basis : (k m n : ℕ) (z : List Fp) → sum_to n (λ i. powₚ (fe i) m *ₚ dot_to k (basis k i) z) ≡ dot_to k (power_by_basis k m n) z
sum_power_by_basis k m zero z = sym (dot_to-nil k z)
sum_power_by_basis k m (suc n) z =
    ap₂ (λ a b. a +ₚ b) (sum_power_by_basis k m n z) (sym (dot_to-scale k (powₚ (fe (suc n)) m) (basis k (suc n)) z))
    ∙ sym (dot_to-add k (power_by_basis k m n) (scale_list (powₚ (fe (suc n)) m) (basis k (suc n))) z)

-- ---- the word
sum_less : (n k : ℕ) (f : ℕ → Fp) → k < n → ((i : ℕ) → k < i → i ≤ n → f i ≡ zeroₚ) → sum_to n f ≡ sum_to k f
sum_less zero k f lt h = absurd (omega arith)
sum_less (suc n) k f lt h =
    ap (λ v. sum_to n f +ₚ v) (h (suc n) lt (omega arith)) ∙ add_zero (sum_to n f)
    ∙ elim (cases_eq k n) [
      | inl e ↦ ap (λ m. sum_to m f) (sym e)
      | inr ne ↦ sum_less n k f (omega (arith, ne, lt)) (λ i a b. h i a (omega (arith, b)))
    ]

sum_front : (n k : ℕ) (f : ℕ → Fp) → k ≤ n → ((i : ℕ) → k < i → i ≤ n → f i ≡ zeroₚ) → sum_to n f ≡ sum_to k f
sum_front n k f le h =
    elim (cases_eq k n) [
      | inl e ↦ ap (λ m. sum_to m f) (sym e)
      | inr ne ↦ sum_less n k f (omega (arith, ne)) h
    ]

entry_ring : (w p o s : Fp) → (w *ₚ p) *ₚ (o *ₚ s) ≡ (o *ₚ w) *ₚ (p *ₚ s)
entry_ring = by_dif4 _ (λ m n k l. simp difs (dif-same _ _ _ _ (omega arith)))

is_less : (k i : ℕ) → k < i → ltb k i ≡ true
is_less k i lt = grind arith

not_less : (k i : ℕ) → i ≤ k → ltb k i ≡ false
not_less k i le = grind arith

word_term : (n k m i : ℕ) (z : List Fp) → n < Prime → i ≤ k → k ≤ n → check_entry n m i *ₚ word_entry n k z i ≡ powₚ (fe i) m *ₚ dot_to k (basis k i) z
word_term n k m i z h ik kn =
    let o : Fp = others_product n i (fe i) in
    let s : Fp = dot_to k (basis k i) z in
    ap (λ (b : Bool). (invₚ o *ₚ powₚ (fe i) m) *ₚ cond b zeroₚ (o *ₚ s)) (not_less k i ik)
    ∙ entry_ring (invₚ o) (powₚ (fe i) m) o s
    ∙ ap (λ v. v *ₚ (powₚ (fe i) m *ₚ s)) (mul_invₚ o (product_apart n i (omega (arith, ik, kn, h)) h))
    ∙ one_mul (powₚ (fe i) m *ₚ s)

word_rest : (n k m i : ℕ) (z : List Fp) → k < i → check_entry n m i *ₚ word_entry n k z i ≡ zeroₚ
word_rest n k m i z lt = ap (λ (b : Bool). check_entry n m i *ₚ cond b zeroₚ (others_product n i (fe i) *ₚ dot_to k (basis k i) z)) (is_less k i lt) ∙ mul_zero (check_entry n m i)

pub word_check : (n k m : ℕ) (z : List Fp) → n < Prime → k ≤ n → m < k → check_of n m (word_entry n k z) ≡ coeff z m
word_check n k m z h le lt =
    sum_front n k (λ i. check_entry n m i *ₚ word_entry n k z i) le (λ i a b. word_rest n k m i z a)
    ∙ sum_same k _ (λ i. powₚ (fe i) m *ₚ dot_to k (basis k i) z) (λ i a b. word_term n k m i z h b le)
    ∙ sum_power_by_basis k m k z ∙ power_by_basis_is k m z (omega (arith, le, h)) lt

pub word_has_syndrome : WordHasSyndrome
word_has_syndrome n k z h le long =
    same_lists k (syndrome_of n k (word_entry n k z)) z (length-map-range_with_len (λ m. check_of n m (word_entry n k z)) 0 k) long
    (λ i a b. syndrome_at n k (i - 1) (word_entry n k z) (omega (arith, a, b)) ∙ word_check n k (i - 1) z h le (omega (arith, a, b)))
