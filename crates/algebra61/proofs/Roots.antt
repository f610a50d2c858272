-- A polynomial with more roots than its degree is zero.
use Rattle.std.proofs.Common.{◌≡◌, suc, ◌≤◌, List, [], ◌∷◌, length, refl, sym, ap, ◌∙◌, arith}
use Rattle.algebra61.specs.Field.{Fp, ◌+ₚ◌, ◌*ₚ◌, ◌-ₚ◌, zeroₚ}
use Rattle.algebra61.specs.Poly.{eval, AllZero, Outside, Distinct, AllRoots}
use Rattle.algebra61.proofs.Ring.{dif-same, difs, by_dif5, by_dif6, by_one, mul_zero, sub_self, add_zero}
use Rattle.algebra61.proofs.Inverse.{other_zero, apart_sub}

-- for p = c ∷ cs: p (x) = p (r) + (x - r) * (shift r cs) (x)
abbrev pub shift : Fp → List Fp → List Fp
shift r [] = []
shift r (d ∷ ds) = eval (d ∷ ds) r ∷ shift r ds

pub length-shift : (r : Fp) (cs : List Fp) → length (shift r cs) ≡ length cs
length-shift r [] = refl
length-shift r (d ∷ ds) = ap suc (length-shift r ds)

shift_step : (d x r u v s : Fp) → x *ₚ (d +ₚ x *ₚ u) -ₚ r *ₚ (d +ₚ r *ₚ v) -ₚ (x -ₚ r) *ₚ ((d +ₚ r *ₚ v) +ₚ x *ₚ s) ≡ x *ₚ ((x *ₚ u -ₚ r *ₚ v) -ₚ (x -ₚ r) *ₚ s)
shift_step = by_dif6 _ (λ m n k l i j. simp difs (dif-same _ _ _ _ (omega arith)))

pub shift_is : (r x : Fp) (cs : List Fp) → x *ₚ eval cs x -ₚ r *ₚ eval cs r ≡ (x -ₚ r) *ₚ eval (shift r cs) x
shift_is r x [] = simp (mul_zero, sub_self)
shift_is r x (d ∷ ds) = by_one _ _ x _ _ (shift_is r x ds) (shift_step d x r (eval ds x) (eval ds r) (eval (shift r ds) x))

pub eval-all_zero : (p : List Fp) (x : Fp) → AllZero p → eval p x ≡ zeroₚ
eval-all_zero [] x z = refl
eval-all_zero (c ∷ cs) x z = rw (z.0, eval-all_zero cs x z.1) (simp (mul_zero, add_zero))

head_zero : (d r e : Fp) → d +ₚ r *ₚ e ≡ zeroₚ → e ≡ zeroₚ → d ≡ zeroₚ
head_zero d r e h k = sym (simp (k, mul_zero, add_zero)) ∙ h

pub all_zero-shift : (r : Fp) (cs : List Fp) → AllZero (shift r cs) → AllZero cs
all_zero-shift r [] z = tt
all_zero-shift r (d ∷ ds) z =
    let rest = all_zero-shift r ds z.1 in
    (head_zero d r (eval ds r) z.0 (eval-all_zero ds r rest), rest)

root_ring : (c x r u v : Fp) → x *ₚ u -ₚ r *ₚ v ≡ (c +ₚ x *ₚ u) -ₚ (c +ₚ r *ₚ v)
root_ring = by_dif5 _ (λ m n k l i. simp difs (dif-same _ _ _ _ (omega arith)))

root_step : (c x r u v s : Fp) → x *ₚ u -ₚ r *ₚ v ≡ (x -ₚ r) *ₚ s → c +ₚ r *ₚ v ≡ zeroₚ → c +ₚ x *ₚ u ≡ zeroₚ → (x -ₚ r) *ₚ s ≡ zeroₚ
root_step c x r u v s e h k = sym e ∙ root_ring c x r u v ∙ rw (h, k) (sub_self zeroₚ)

shift_roots : (r c : Fp) (cs xs : List Fp) → Outside r xs → eval (c ∷ cs) r ≡ zeroₚ → AllRoots (c ∷ cs) xs → AllRoots (shift r cs) xs
shift_roots r c cs [] o h a = tt
shift_roots r c cs (x ∷ xs) o h a =
    (other_zero _ _ (apart_sub x r (λ e. o.0 (sym e))) (root_step c x r _ _ _ (shift_is r x cs) h a.0), shift_roots r c cs xs o.1 h a.1)

pub too_many_roots : (p xs : List Fp) → length p ≤ length xs → Distinct xs → AllRoots p xs → AllZero p
too_many_roots [] xs le d a = tt
too_many_roots (c ∷ cs) [] le d a = absurd (omega arith)
too_many_roots (c ∷ cs) (x ∷ xs) le d a =
    let rest = all_zero-shift x cs (too_many_roots (shift x cs) xs (omega (arith, le, length-shift x cs)) d.1 (shift_roots x c cs xs d.0 a.0 a.1)) in
    (head_zero c x (eval cs x) a.0 (eval-all_zero cs x rest), rest)
