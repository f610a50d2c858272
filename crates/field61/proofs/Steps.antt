-- What the calls of Fe answer, over the numbers inside.
use Rattle.std.proofs.Common.{◌≡◌, ℕ, ◌+◌, ◌-◌, ◌*◌, ◌/◌, ◌%◌, ◌^◌, ◌<◌, ◌≤◌, bit_and, sym, ap, ◌∙◌, arith}
use Rattle.std.proofs.Math.Nat.{mod-mod, div-add-mod}
use Rattle.std.proofs.lemmas.Nat.{and_mask}
use Rattle.algebra61.specs.Field.{Prime, Fp, fe, ◌+ₚ◌, ◌*ₚ◌, negₚ, zeroₚ, oneₚ, powₚ}
use Rattle.algebra61.proofs.Pow.{pow_zero, pow_even, pow_odd}
use Rattle.algebra61.proofs.Ring.{fe-by, fe-same, fe-add, fe-mul, num-fe_small, mul_one, mul_assocₚ}

pub add_is : (m n : ℕ) (a b : Fp) → fe m ≡ a → fe n ≡ b → fe (m + n) ≡ a +ₚ b
add_is m n a b p q = sym (fe-add m n) ∙ ap (λ x. x +ₚ fe n) p ∙ ap (λ x. a +ₚ x) q

pub mul_is : (m n : ℕ) (a b : Fp) → fe m ≡ a → fe n ≡ b → fe (m * n) ≡ a *ₚ b
mul_is m n a b p q = sym (fe-mul m n) ∙ ap (λ x. x *ₚ fe n) p ∙ ap (λ x. a *ₚ x) q

pub less_prime : (n : ℕ) → Prime ≤ n → fe (n - Prime) ≡ fe n
less_prime n h = fe-by _ _ 1 0 (omega arith)

-- 2^61 leaves 1
pub high_low : (n high low : ℕ) → n ≡ high * 2 ^ 61 + low → fe (low + high) ≡ fe n
high_low n high low h = fe-by _ _ high 0 (omega arith)

pub number_is : (n : ℕ) (a : Fp) → n < Prime → fe n ≡ a → n ≡ a.num
number_is n a h e = sym (num-fe_small n h) ∙ ap (λ (x : Fp). x.num) e

pub left_is : (n : ℕ) → fe (n % Prime) ≡ fe n
left_is n = fe-same _ _ (mod-mod n Prime)

pub neg_is : (n : ℕ) (a : Fp) → n < Prime → fe n ≡ a → fe (Prime - n) ≡ negₚ a
unfolding negₚ
neg_is n a h e = ap (λ k. fe (Prime - k)) (number_is n a h e)

pub shifts : (n : ℕ) → fe (bit_and n 2305843009213693951 + n / 2305843009213693952) ≡ fe n
shifts n =
    ap (λ k. fe (k + n / 2305843009213693952)) (and_mask n 61)
    ∙ high_low n (n / 2 ^ 61) (n % 2 ^ 61) (omega (arith, div-add-mod n (2 ^ 61)))

pub zero_inside : (n : ℕ) (a : Fp) → fe n ≡ a → n ≡ 0 → a ≡ zeroₚ
zero_inside n a e h = sym e ∙ ap fe h

pub one_left : (n : ℕ) → 0 < n → n ≤ 1 → fe n ≡ oneₚ
one_left n lo hi = let e : n ≡ 1 = omega arith in ap fe e

pub pow_step_odd : (a b : Fp) (n : ℕ) → n % 2 ≡ 1 → a *ₚ powₚ b n ≡ (a *ₚ b) *ₚ powₚ (b *ₚ b) (n / 2)
pow_step_odd a b n h = ap (λ x. a *ₚ x) (pow_odd b n h) ∙ sym (mul_assocₚ a b _)

pub pow_step_even : (a b : Fp) (n : ℕ) → (n % 2 ≡ 1 → ⊥) → a *ₚ powₚ b n ≡ a *ₚ powₚ (b *ₚ b) (n / 2)
pow_step_even a b n h = ap (λ x. a *ₚ x) (pow_even b n (omega arith))

pub pow_end : (a b : Fp) (n : ℕ) → n ≤ 0 → a *ₚ powₚ b n ≡ a
pow_end a b n h = let e : n ≡ 0 = omega arith in rw (e, pow_zero) (mul_one a)
