-- Zeros at a list's end.
use Rattle.std.proofs.Common.{◌≡◌, suc, ◌≤◌, List, [], ◌∷◌, length, Bool, true, false, eqb, eqb→eq, T, refl, sym, ap, ◌∙◌, subst, arith, ap₂}
use Rattle.algebra61.specs.Field.{Fp, ◌+ₚ◌, ◌*ₚ◌, ◌-ₚ◌, negₚ, zeroₚ, oneₚ, same_num}
use Rattle.algebra61.specs.Poly.{eval, AllZero, scale_list}
use Rattle.algebra61.specs.Trim.{unless_zero, put_front, trim}
use Rattle.algebra61.proofs.Ring.{mul_zero, add_zero, zero_sub, dif-same, difs, by_dif1, by_dif2}
use Rattle.algebra61.proofs.Inverse.{num-zero}
use Rattle.algebra61.proofs.PolyOps.{sub_list}

pub zero_by_test : (c : Fp) → eqb c.num 0 ≡ true → c ≡ zeroₚ
zero_by_test c e = same_num c zeroₚ (eqb→eq _ _ (subst T (sym e) tt) ∙ sym num-zero)

unless_eval : (b : Bool) (c x : Fp) → eqb c.num 0 ≡ b → eval (unless_zero b c) x ≡ c +ₚ x *ₚ zeroₚ
unless_eval true c x e = sym (zero_by_test c e) ∙ sym (simp (mul_zero, add_zero))
unless_eval false c x e = refl

front_eval : (c x : Fp) (ds : List Fp) → eval (put_front c ds) x ≡ c +ₚ x *ₚ eval ds x
front_eval c x [] = unless_eval (eqb c.num 0) c x refl
front_eval c x (d ∷ ds) = refl

pub eval-trim : (p : List Fp) (x : Fp) → eval (trim p) x ≡ eval p x
eval-trim [] x = refl
eval-trim (c ∷ cs) x = front_eval c x (trim cs) ∙ ap (λ y. c +ₚ x *ₚ y) (eval-trim cs x)

unless_length : (b : Bool) (c : Fp) → length (unless_zero b c) ≤ 1
unless_length true c = omega arith
unless_length false c = omega arith

front_length : (c : Fp) (ds : List Fp) → length (put_front c ds) ≤ suc (length ds)
front_length c [] = unless_length (eqb c.num 0) c
front_length c (d ∷ ds) = omega arith

pub length-trim : (p : List Fp) → length (trim p) ≤ length p
length-trim [] = omega arith
length-trim (c ∷ cs) = omega (arith, front_length c (trim cs), length-trim cs)

zero_test : (c : Fp) → c ≡ zeroₚ → eqb c.num 0 ≡ true
zero_test c e = let n : c.num ≡ 0 = ap (λ (x : Fp). x.num) e ∙ num-zero in grind arith

pub trim-all_zero : (p : List Fp) → AllZero p → trim p ≡ []
trim-all_zero [] z = refl
trim-all_zero (c ∷ cs) z =
    ap (put_front c) (trim-all_zero cs z.1) ∙ ap (λ b. unless_zero b c) (zero_test c z.0)

minus_one : (a b : Fp) → a -ₚ b ≡ a +ₚ negₚ oneₚ *ₚ b
minus_one = by_dif2 _ (λ m n. simp difs (dif-same _ _ _ _ (omega arith)))

back : (b : Fp) → negₚ oneₚ *ₚ (negₚ oneₚ *ₚ b) ≡ b
back = by_dif1 _ (λ m. simp difs (dif-same _ _ _ _ (omega arith)))

all_zero-scale : (q : List Fp) → AllZero (scale_list (negₚ oneₚ) q) → AllZero q
all_zero-scale [] z = tt
all_zero-scale (b ∷ q) z = (sym (back b) ∙ ap (λ x. negₚ oneₚ *ₚ x) z.0 ∙ mul_zero (negₚ oneₚ), all_zero-scale q z.1)

-- two lists whose difference is zero are one polynomial
pub trim_same : (p q : List Fp) → AllZero (sub_list p q) → trim p ≡ trim q
trim_same [] q z = sym (trim-all_zero q (all_zero-scale q z))
trim_same (a ∷ p) [] z = trim-all_zero (a ∷ p) z
trim_same (a ∷ p) (b ∷ q) z = ap₂ put_front (zero_sub a b (minus_one a b ∙ z.0)) (trim_same p q z.1)
