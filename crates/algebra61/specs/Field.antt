-- The field of P = 2^61 - 1 elements. An element is a number below P, with the proof that it is.
use Rattle.std.specs.Prelude.{◌≡◌, ℕ, zero, suc, ◌+◌, ◌-◌, ◌*◌, ◌%◌, ◌<◌}
use Rattle.std.specs.Coded.{Coded, code_by, coded_ℕ}
use Rattle.std.proofs.Common.{ap, subst}
use Rattle.std.proofs.Math.Nat.{mod-lt, mod-eq_of_lt}
use Rattle.std.proofs.Math.Dec.{lit<}
use Rattle.std.proofs.Math.Bridge.{le_prop}

-- the number of elements, 2^61 - 1
abbrev pub Prime : ℕ
Prime = 2305843009213693951

-- an element: a number, and the proof that it is below Prime
pub record Fp : Type 0 where
  pub num : ℕ
  pub below : num < Prime

-- the element that a number leaves
unfoldable pub fe : ℕ → Fp
fe n = record { num = n % Prime; below = mod-lt n (lit< tt) }

-- two elements with one number are one element
pub same_num : (a b : Fp) → a.num ≡ b.num → a ≡ b
same_num a b e =
    let at : (n : ℕ) → n < Prime → Fp = λ n h. record { num = n; below = h } in
    subst (λ n. (h : n < Prime) → a ≡ at n h) e (λ h. ap (at a.num) (le_prop a.below h)) b.below

-- an element is what its number leaves
pub fe-num : (a : Fp) → fe a.num ≡ a
unfolding fe
fe-num a = same_num _ _ (mod-eq_of_lt a.below)

abbrev pub fp_code : Coded Fp
fp_code = code_by ℕ coded_ℕ (λ a. a.num) fe fe-num

infixl 6 ◌+ₚ◌
infixl 6 ◌-ₚ◌
infixl 7 ◌*ₚ◌
-- sum, product, negative and difference, modulo Prime
unfoldable pub ◌+ₚ◌ : Fp → Fp → Fp
a +ₚ b = fe (a.num + b.num)

unfoldable pub ◌*ₚ◌ : Fp → Fp → Fp
a *ₚ b = fe (a.num * b.num)

unfoldable pub negₚ : Fp → Fp
negₚ a = fe (Prime - a.num)

unfoldable pub ◌-ₚ◌ : Fp → Fp → Fp
a -ₚ b = a +ₚ negₚ b

abbrev pub zeroₚ : Fp
zeroₚ = fe 0

abbrev pub oneₚ : Fp
oneₚ = fe 1

-- powers: every element to the power 0 is 1
unfoldable pub powₚ : Fp → ℕ → Fp
powₚ a zero = oneₚ
powₚ a (suc n) = a *ₚ powₚ a n
