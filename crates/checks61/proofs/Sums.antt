-- Sums over 1 to n, and counts of the entries that are not 0.
use Rattle.std.proofs.Common.{◌≡◌, ℕ, zero, suc, ◌+◌, ◌-◌, ◌≤◌, inl, inr, Bool, true, false, cond, eqb, refl, sym, ap, ap₂, ◌∙◌, arith}
use Rattle.std.proofs.lemmas.Bool.{cases_lt}
use Rattle.algebra61.specs.Field.{Fp, zeroₚ, ◌+ₚ◌, ◌-ₚ◌, ◌*ₚ◌}
use Rattle.algebra61.proofs.Ring.{add_assocₚ, zero_add, add_zero, dif-same, difs, by_dif4, mul_sub, sub_self}
use Rattle.algebra61.proofs.Trim.{zero_by_test}
use Rattle.algebra61.proofs.Inverse.{num-zero}
use Rattle.checks61.specs.Checks.{sum_to, nonzero_to}

pub sum_same : (n : ℕ) (f g : ℕ → Fp) → ((i : ℕ) → 1 ≤ i → i ≤ n → f i ≡ g i) → sum_to n f ≡ sum_to n g
sum_same zero f g h = refl
sum_same (suc n) f g h = ap₂ (λ a b. a +ₚ b) (sum_same n f g (λ i a b. h i a (omega arith))) (h (suc n) (omega arith) (omega arith))

pub sum_zero : (n : ℕ) (f : ℕ → Fp) → ((i : ℕ) → 1 ≤ i → i ≤ n → f i ≡ zeroₚ) → sum_to n f ≡ zeroₚ
sum_zero zero f h = refl
sum_zero (suc n) f h = ap₂ (λ a b. a +ₚ b) (sum_zero n f (λ i a b. h i a (omega arith))) (h (suc n) (omega arith) (omega arith)) ∙ add_zero zeroₚ

-- the first term apart
pub sum_first : (n : ℕ) (f : ℕ → Fp) → sum_to (suc n) f ≡ f 1 +ₚ sum_to n (λ i. f (suc i))
sum_first zero f = zero_add (f 1) ∙ sym (add_zero (f 1))
sum_first (suc n) f = ap (λ v. v +ₚ f (suc (suc n))) (sum_first n f) ∙ add_assocₚ (f 1) (sum_to n (λ i. f (suc i))) (f (suc (suc n)))

minus_ring : (a b c d : Fp) → (a -ₚ b) +ₚ (c -ₚ d) ≡ (a +ₚ c) -ₚ (b +ₚ d)
minus_ring = by_dif4 _ (λ m n k l. simp difs (dif-same _ _ _ _ (omega arith)))

plus_ring : (a b c d : Fp) → (a +ₚ b) +ₚ (c +ₚ d) ≡ (a +ₚ c) +ₚ (b +ₚ d)
plus_ring = by_dif4 _ (λ m n k l. simp difs (dif-same _ _ _ _ (omega arith)))

-- weighted sums are linear
pub sum_minus : (n : ℕ) (w f g : ℕ → Fp) → sum_to n (λ i. w i *ₚ (f i -ₚ g i)) ≡ sum_to n (λ i. w i *ₚ f i) -ₚ sum_to n (λ i. w i *ₚ g i)
sum_minus zero w f g = sym (sub_self zeroₚ)
sum_minus (suc n) w f g =
    ap₂ (λ a b. a +ₚ b) (sum_minus n w f g) (mul_sub (w (suc n)) (f (suc n)) (g (suc n)))
    ∙ minus_ring (sum_to n (λ i. w i *ₚ f i)) (sum_to n (λ i. w i *ₚ g i)) (w (suc n) *ₚ f (suc n)) (w (suc n) *ₚ g (suc n))

-- ---- counts
one_count : (a b c : Bool) → (a ≡ true → b ≡ true → c ≡ true) → cond c 0 1 ≤ cond a 0 1 + cond b 0 1
one_count true true c h = omega (arith, ap (λ (z : Bool). let v : ℕ = cond z 0 1 in v) (h refl refl))
one_count true false true h = omega arith
one_count true false false h = omega arith
one_count false b true h = omega arith
one_count false b false h = omega arith

is_zero : (a : Fp) → a ≡ zeroₚ → eqb a.num 0 ≡ true
is_zero a e = let n : a.num ≡ 0 = ap (λ (x : Fp). x.num) e ∙ num-zero in grind arith

both_zero : (u v : Fp) → eqb u.num 0 ≡ true → eqb v.num 0 ≡ true → eqb (u -ₚ v).num 0 ≡ true
both_zero u v a b = is_zero (u -ₚ v) (ap₂ (λ x y. x -ₚ y) (zero_by_test u a) (zero_by_test v b) ∙ sub_self zeroₚ)

pub nonzero_minus : (n : ℕ) (v w : ℕ → Fp) → nonzero_to n (λ i. v i -ₚ w i) ≤ nonzero_to n v + nonzero_to n w
nonzero_minus zero v w = omega arith
nonzero_minus (suc n) v w =
    omega (arith, nonzero_minus n v w, one_count (eqb (v (suc n)).num 0) (eqb (w (suc n)).num 0) (eqb (v (suc n) -ₚ w (suc n)).num 0) (both_zero (v (suc n)) (w (suc n))))

pub nonzero_same : (n : ℕ) (v w : ℕ → Fp) → ((i : ℕ) → 1 ≤ i → i ≤ n → v i ≡ w i) → nonzero_to n v ≡ nonzero_to n w
nonzero_same zero v w h = refl
nonzero_same (suc n) v w h =
    ap₂ (λ (a : ℕ) (b : Fp). let k : ℕ = cond (eqb b.num 0) 0 1 in a + k) (nonzero_same n v w (λ i a b. h i a (omega arith))) (h (suc n) (omega arith) (omega arith))

-- where the first k entries are 0, at most the others are not
one_at_most : (b : Bool) → cond b 0 1 ≤ 1
one_at_most true = omega arith
one_at_most false = omega arith

pub nonzero_after : (k n : ℕ) (v : ℕ → Fp) → ((i : ℕ) → 1 ≤ i → i ≤ k → v i ≡ zeroₚ) → nonzero_to n v ≤ n - k
nonzero_after k zero v h = omega arith
nonzero_after k (suc n) v h =
    elim (cases_lt n k) [
      | inr le ↦ omega (arith, nonzero_after k n v h, one_at_most (eqb (v (suc n)).num 0), le)
      | inl lt ↦
          let none : cond (eqb (v (suc n)).num 0) 0 1 ≡ 0 = ap (λ (z : Bool). let x : ℕ = cond z 0 1 in x) (is_zero (v (suc n)) (h (suc n) (omega arith) (omega (arith, lt)))) in
          omega (arith, nonzero_after k n v h, none, lt)
    ]
