-- Sums, multiples and products of coefficient lists.
use Rattle.std.proofs.Common.{◌≡◌, suc, ◌+◌, ◌-◌, ◌≤◌, max, List, [], ◌∷◌, length, refl, sym, ap, ◌∙◌, arith}
use Rattle.algebra61.specs.Field.{Fp, ◌+ₚ◌, ◌*ₚ◌, ◌-ₚ◌, negₚ, zeroₚ, oneₚ}
use Rattle.algebra61.specs.Poly.{eval, add_list, scale_list, mul_list}
use Rattle.algebra61.proofs.Ring.{dif-same, difs, by_dif2, by_dif4, by_dif5, mul_zero, add_zero, zero_add, zero_mul}

add_ring : (a b x u v : Fp) → (a +ₚ b) +ₚ x *ₚ (u +ₚ v) ≡ (a +ₚ x *ₚ u) +ₚ (b +ₚ x *ₚ v)
add_ring = by_dif5 _ (λ m n k l i. simp difs (dif-same _ _ _ _ (omega arith)))

pub eval-add : (p q : List Fp) (x : Fp) → eval (add_list p q) x ≡ eval p x +ₚ eval q x
eval-add [] q x = sym (zero_add _)
eval-add (a ∷ p) [] x = sym (add_zero _)
eval-add (a ∷ p) (b ∷ q) x = rw (eval-add p q x) (add_ring a b x _ _)

scale_ring : (k c x u : Fp) → k *ₚ c +ₚ x *ₚ (k *ₚ u) ≡ k *ₚ (c +ₚ x *ₚ u)
scale_ring = by_dif4 _ (λ m n k l. simp difs (dif-same _ _ _ _ (omega arith)))

pub eval-scale : (k : Fp) (p : List Fp) (x : Fp) → eval (scale_list k p) x ≡ k *ₚ eval p x
eval-scale k [] x = sym (mul_zero k)
eval-scale k (c ∷ p) x = rw (eval-scale k p x) (scale_ring k c x _)

mul_ring : (a v x u : Fp) → a *ₚ v +ₚ (zeroₚ +ₚ x *ₚ (u *ₚ v)) ≡ (a +ₚ x *ₚ u) *ₚ v
mul_ring = by_dif4 _ (λ m n k l. simp difs (dif-same _ _ _ _ (omega arith)))

pub eval-mul : (p q : List Fp) (x : Fp) → eval (mul_list p q) x ≡ eval p x *ₚ eval q x
eval-mul [] q x = sym (zero_mul _)
eval-mul (a ∷ p) q x =
    rw (eval-add (scale_list a q) (zeroₚ ∷ mul_list p q) x, eval-scale a q x, eval-mul p q x) (mul_ring a _ x _)

pub length-add : (p q : List Fp) → length (add_list p q) ≡ max (length p) (length q)
length-add [] q = omega arith
length-add (a ∷ p) [] = omega arith
length-add (a ∷ p) (b ∷ q) = omega (arith, length-add p q)

pub length-scale : (k : Fp) (p : List Fp) → length (scale_list k p) ≡ length p
length-scale k [] = refl
length-scale k (c ∷ p) = ap suc (length-scale k p)

-- a product of m + 1 and n + 1 coefficients has at most m + n + 1
pub length-mul : (p q : List Fp) → length (mul_list p q) ≤ length p + (length q - 1)
length-mul [] q = omega arith
length-mul (a ∷ p) q = omega (arith, length-add (scale_list a q) (zeroₚ ∷ mul_list p q), length-scale a q, length-mul p q)

-- the difference p - q
abbrev pub sub_list : List Fp → List Fp → List Fp
sub_list p q = add_list p (scale_list (negₚ oneₚ) q)

minus_ring : (a b : Fp) → a +ₚ negₚ oneₚ *ₚ b ≡ a -ₚ b
minus_ring = by_dif2 _ (λ m n. simp difs (dif-same _ _ _ _ (omega arith)))

pub eval-sub : (p q : List Fp) (x : Fp) → eval (sub_list p q) x ≡ eval p x -ₚ eval q x
eval-sub p q x = eval-add p _ x ∙ ap (λ y. eval p x +ₚ y) (eval-scale _ q x) ∙ minus_ring _ _

pub length-sub : (p q : List Fp) → length (sub_list p q) ≡ max (length p) (length q)
length-sub p q = length-add p _ ∙ ap (λ n. max (length p) n) (length-scale _ q)
