-- Powers.
use Rattle.std.proofs.Common.{◌≡◌, ℕ, zero, suc, ◌+◌, ◌/◌, ◌%◌, refl, sym, ap, ◌∙◌, arith}
use Rattle.algebra61.specs.Field.{Fp, ◌*ₚ◌, oneₚ, powₚ}
use Rattle.algebra61.proofs.Ring.{mul_assocₚ, one_mul}

pub pow_zero : (a : Fp) → powₚ a 0 ≡ oneₚ
unfolding powₚ
pow_zero a = refl

pub pow_next : (a : Fp) (n : ℕ) → powₚ a (suc n) ≡ a *ₚ powₚ a n
unfolding powₚ
pow_next a n = refl

at : (a : Fp) (m n : ℕ) → m ≡ n → powₚ a m ≡ powₚ a n
at a m n e = ap (powₚ a) e

pub pow_add : (a : Fp) (m n : ℕ) → powₚ a (m + n) ≡ powₚ a m *ₚ powₚ a n
pow_add a zero n = at a (0 + n) n (omega arith) ∙ sym (rw pow_zero (one_mul _))
pow_add a (suc m) n =
    at a (suc m + n) (suc (m + n)) (omega arith) ∙ pow_next a (m + n) ∙ ap (λ x. a *ₚ x) (pow_add a m n)
    ∙ sym (mul_assocₚ a _ _) ∙ ap (λ x. x *ₚ powₚ a n) (sym (pow_next a m))

pub pow_square : (a : Fp) (n : ℕ) → powₚ (a *ₚ a) n ≡ powₚ a (n + n)
pow_square a zero = simp pow_zero
pow_square a (suc n) =
    let e : suc n + suc n ≡ suc (suc (n + n)) = omega arith in
    rw (e, pow_next, pow_next, pow_next, pow_square a n) (mul_assocₚ a a _)

-- a step of the square-and-multiply loop
pub pow_even : (a : Fp) (n : ℕ) → n % 2 ≡ 0 → powₚ a n ≡ powₚ (a *ₚ a) (n / 2)
pow_even a n h = at a n (n / 2 + n / 2) (omega arith) ∙ sym (pow_square a (n / 2))

pub pow_odd : (a : Fp) (n : ℕ) → n % 2 ≡ 1 → powₚ a n ≡ a *ₚ powₚ (a *ₚ a) (n / 2)
pow_odd a n h =
    let e : n ≡ suc (n / 2 + n / 2) = omega arith in
    ap (powₚ a) e ∙ pow_next a _ ∙ ap (λ x. a *ₚ x) (sym (pow_square a (n / 2)))
