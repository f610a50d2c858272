-- Inverses, from the number's having no divisor.
use Rattle.std.proofs.Common.{◌≡◌, ℕ, ◌/◌, ◌%◌, ◌<◌, ◌≤◌, ◌⊎◌, inl, inr, sym, ap, ◌∙◌, arith, le_refl}
use Rattle.std.proofs.lemmas.Bool.{cases_eq, cases_lt}
use Rattle.std.proofs.Math.Nat.{div-add-mod, mod-lt}
use Rattle.algebra61.specs.Inverse.{invₚ}
use Rattle.algebra61.specs.Field.{Prime, Fp, fe, ◌+ₚ◌, ◌*ₚ◌, negₚ, ◌-ₚ◌, zeroₚ, oneₚ, fe-num, same_num}
use Rattle.prime61.proofs.Cong.{inverse_below}
use Rattle.prime61.proofs.Prime.{prime_p}
use Rattle.algebra61.proofs.Ring.{fe-by, fe-add, fe-mul, add_sub, difs, dif-same, by_dif1, by_dif3, num-fe, mul_commut, mul_assocₚ, one_mul, mul_zero, zero_sub, mul_sub, sub_self}

pub num-zero : zeroₚ.num ≡ 0
num-zero = num-fe 0

pub same_or_not : (a b : Fp) → (a ≡ b) ⊎ (a ≡ b → ⊥)
same_or_not a b =
    elim (cases_eq a.num b.num) [ inl e ↦ inl (same_num a b e) | inr ne ↦ inr (λ e. ne (ap (λ (x : Fp). x.num) e)) ]

pub inverse : (a : Fp) → (a ≡ zeroₚ → ⊥) → (b : Fp) × (a *ₚ b ≡ oneₚ)
inverse a ne =
    let pos : 0 < a.num = elim (cases_lt 0 a.num) [ inl p ↦ p | inr h ↦ absurd (ne (same_num a zeroₚ (omega (arith, h, num-zero)))) ] in
    let i = inverse_below 2305843009213693950 prime_p a.num a.num (le_refl a.num) pos a.below in
    (fe i.0, ap (λ x. x *ₚ fe i.0) (sym (fe-num a)) ∙ fe-mul a.num i.0 ∙ fe-by _ _ i.1.up i.1.down i.1.eq)

-- a product that is zero has a factor that is zero
pub other_zero : (a b : Fp) → (a ≡ zeroₚ → ⊥) → a *ₚ b ≡ zeroₚ → b ≡ zeroₚ
other_zero a b ne h =
    let i = inverse a ne in
    sym (one_mul b) ∙ ap (λ x. x *ₚ b) (sym i.1) ∙ ap (λ x. x *ₚ b) (mul_commut a i.0) ∙ mul_assocₚ i.0 a b ∙ ap (λ x. i.0 *ₚ x) h ∙ mul_zero i.0

pub cancel : (a b c : Fp) → (a ≡ zeroₚ → ⊥) → a *ₚ b ≡ a *ₚ c → b ≡ c
cancel a b c ne h =
    zero_sub b c (other_zero a (b -ₚ c) ne (mul_sub a b c ∙ ap (λ x. x -ₚ a *ₚ c) h ∙ sub_self (a *ₚ c)))

pub apart_sub : (a b : Fp) → (a ≡ b → ⊥) → a -ₚ b ≡ zeroₚ → ⊥
apart_sub a b ne h = ne (zero_sub a b h)

-- ---- the step of the loop that finds an inverse
zero_minus : (y : Fp) → zeroₚ -ₚ y ≡ negₚ y
zero_minus = by_dif1 _ (λ m. simp difs (dif-same _ _ _ _ (omega arith)))

pub neg_of_sum : (x y : Fp) → x +ₚ y ≡ zeroₚ → x ≡ negₚ y
neg_of_sum x y h = sym (add_sub x y) ∙ ap (λ z. z -ₚ y) h ∙ zero_minus y

pub rest_is : (r : ℕ) → fe (2305843009213693951 % r) ≡ negₚ (fe r *ₚ fe (2305843009213693951 / r))
rest_is r =
    neg_of_sum _ _ (ap (λ x. fe (2305843009213693951 % r) +ₚ x) (fe-mul r _) ∙ fe-add _ _
    ∙ fe-by _ _ 0 1 (omega (arith, div-add-mod 2305843009213693951 r)))

factor_ring : (s f a : Fp) → s *ₚ negₚ (f *ₚ a) ≡ negₚ ((s *ₚ f) *ₚ a)
factor_ring = by_dif3 _ (λ m n k. simp difs (dif-same _ _ _ _ (omega arith)))

rest_pos : (r : ℕ) → 1 < r → r < Prime → 0 < 2305843009213693951 % r
rest_pos r big lt =
    elim (cases_lt 0 (2305843009213693951 % r)) [
      | inl p ↦ p
      | inr none_left ↦ absurd (prime_p r (2305843009213693951 / r) big lt (omega (arith, none_left, div-add-mod 2305843009213693951 r)))
    ]

pub rest_next : (r : ℕ) (s f : Fp) → 1 < r → r < Prime → fe r ≡ s *ₚ f →
    (0 < 2305843009213693951 % r) × (2305843009213693951 % r < r) × (fe (2305843009213693951 % r) ≡ s *ₚ negₚ (f *ₚ fe (2305843009213693951 / r)))
rest_next r s f big lt h = (
  rest_pos r big lt,
  mod-lt 2305843009213693951 {m = r} (omega arith),
  rest_is r ∙ ap (λ x. negₚ (x *ₚ fe (2305843009213693951 / r))) h ∙ sym (factor_ring s f _),
)

-- the definition is the inverse
inv_cases : (a : Fp) (d : (0 < a.num) ⊎ (a.num ≤ 0)) → (a ≡ zeroₚ → ⊥) →
    a *ₚ (elim d [ inl pos ↦ fe (inverse_below 2305843009213693950 prime_p a.num a.num (le_refl a.num) pos a.below).0 | inr none_left ↦ zeroₚ ]) ≡ oneₚ
inv_cases a (inl pos) ne =
    let i = inverse_below 2305843009213693950 prime_p a.num a.num (le_refl a.num) pos a.below in
    ap (λ x. x *ₚ fe i.0) (sym (fe-num a)) ∙ fe-mul a.num i.0 ∙ fe-by _ _ i.1.up i.1.down i.1.eq
inv_cases a (inr h) ne = absurd (ne (same_num a zeroₚ (omega (arith, h, num-zero))))

pub mul_invₚ : (a : Fp) → (a ≡ zeroₚ → ⊥) → a *ₚ invₚ a ≡ oneₚ
unfolding invₚ
mul_invₚ a ne = inv_cases a (cases_lt 0 a.num) ne

-- an inverse is the one of the definition
pub inverse_is : (a b : Fp) → (a ≡ zeroₚ → ⊥) → a *ₚ b ≡ oneₚ → b ≡ invₚ a
inverse_is a b ne h = cancel a b (invₚ a) ne (h ∙ sym (mul_invₚ a ne))

-- the law, under a name that a function can cite
pub ruleset inverse_rules = (mul_invₚ)
