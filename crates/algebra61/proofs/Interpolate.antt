-- A polynomial through given points.
use Rattle.std.proofs.Common.{◌≡◌, suc, ◌≤◌, List, [], ◌∷◌, length, refl, sym, ap, ◌∙◌, arith}
use Rattle.algebra61.specs.Inverse.{invₚ}
use Rattle.algebra61.specs.Field.{Fp, ◌+ₚ◌, ◌*ₚ◌, ◌-ₚ◌, negₚ, zeroₚ, oneₚ}
use Rattle.algebra61.specs.Poly.{eval, Outside, Distinct, AllRoots, Point, points, Passes, add_list, scale_list, mul_list}
use Rattle.algebra61.proofs.Ring.{num-fe, mul_zero, zero_mul, add_zero, sub_self, dif-same, difs, by_dif2, by_dif4}
use Rattle.algebra61.proofs.Inverse.{mul_invₚ, other_zero, apart_sub}
use Rattle.algebra61.proofs.PolyOps.{eval-add, eval-scale, eval-mul, length-add, length-scale, length-mul}

-- the product of x - r over the list
abbrev pub vanish : List Fp → List Fp
vanish [] = oneₚ ∷ []
vanish (r ∷ rs) = mul_list (negₚ r ∷ oneₚ ∷ []) (vanish rs)

-- the value of the polynomial x - r
pub factor_ring : (r x : Fp) → negₚ r +ₚ x *ₚ (oneₚ +ₚ x *ₚ zeroₚ) ≡ x -ₚ r
factor_ring = by_dif2 _ (λ m n. simp difs (dif-same _ _ _ _ (omega arith)))

one_ring : (x : Fp) → oneₚ +ₚ x *ₚ zeroₚ ≡ oneₚ
one_ring x = simp (mul_zero, add_zero)

pub eval-vanish : (r x : Fp) (rs : List Fp) → eval (vanish (r ∷ rs)) x ≡ (x -ₚ r) *ₚ eval (vanish rs) x
eval-vanish r x rs = eval-mul (negₚ r ∷ oneₚ ∷ []) (vanish rs) x ∙ ap (λ y. y *ₚ eval (vanish rs) x) (factor_ring r x)

pub length-vanish : (rs : List Fp) → length (vanish rs) ≤ suc (length rs)
length-vanish [] = omega arith
length-vanish (r ∷ rs) = omega (arith, length-mul (negₚ r ∷ oneₚ ∷ []) (vanish rs), length-vanish rs)

pub one_apart : oneₚ ≡ zeroₚ → ⊥
one_apart e = omega (arith, num-fe 1, num-fe 0, ap (λ (x : Fp). x.num) e)

pub vanish_outside : (x : Fp) (rs : List Fp) → Outside x rs → eval (vanish rs) x ≡ zeroₚ → ⊥
vanish_outside x [] o e = one_apart (sym (one_ring x) ∙ e)
vanish_outside x (r ∷ rs) o e = vanish_outside x rs o.1 (other_zero _ _ (apart_sub x r o.0) (sym (eval-vanish r x rs) ∙ e))

-- a list with the roots rs, as the further factor
pub more_roots : (r : Fp) (rs xs : List Fp) → AllRoots (vanish rs) xs → AllRoots (vanish (r ∷ rs)) xs
more_roots r rs [] a = tt
more_roots r rs (x ∷ xs) a = (eval-vanish r x rs ∙ ap (λ y. (x -ₚ r) *ₚ y) a.0 ∙ mul_zero (x -ₚ r), more_roots r rs xs a.1)

pub vanish_roots : (rs : List Fp) → AllRoots (vanish rs) rs
vanish_roots [] = tt
vanish_roots (r ∷ rs) =
    (eval-vanish r r rs ∙ ap (λ y. y *ₚ eval (vanish rs) r) (sub_self r) ∙ zero_mul (eval (vanish rs) r), more_roots r rs rs (vanish_roots rs))

-- ---- one point more
abbrev pub newton_step : Point → List Fp → List Fp → List Fp
newton_step q r v = add_list r (scale_list ((q.value -ₚ eval r q.at) *ₚ invₚ (eval v q.at)) v)

abbrev pub newton : List Point → List Fp
newton [] = []
newton (q ∷ qs) = newton_step q (newton qs) (vanish (points qs))

pub length-points : (qs : List Point) → length (points qs) ≡ length qs
length-points [] = refl
length-points (q ∷ qs) = ap suc (length-points qs)

pub length-newton : (qs : List Point) → length (newton qs) ≤ length qs
length-newton [] = omega arith
length-newton (q ∷ qs) =
    let v : List Fp = vanish (points qs) in
    let k : Fp = (q.value -ₚ eval (newton qs) q.at) *ₚ invₚ (eval v q.at) in
    omega (arith, length-add (newton qs) (scale_list k v), length-scale k v, length-newton qs, length-vanish (points qs), length-points qs)

keep_old : (r v : List Fp) (k : Fp) (qs : List Point) → Passes r qs → AllRoots v (points qs) → Passes (add_list r (scale_list k v)) qs
keep_old r v k [] p a = tt
keep_old r v k (q ∷ qs) p a =
    (eval-add r _ q.at ∙ rw (eval-scale k v q.at, a.0, p.0) (simp (mul_zero, add_zero)), keep_old r v k qs p.1 a.1)

new_ring : (y u w i : Fp) → u +ₚ ((y -ₚ u) *ₚ i) *ₚ w ≡ u +ₚ (y -ₚ u) *ₚ (w *ₚ i)
new_ring = by_dif4 _ (λ m n k l. simp difs (dif-same _ _ _ _ (omega arith)))

back_ring : (y u : Fp) → u +ₚ (y -ₚ u) *ₚ oneₚ ≡ y
back_ring = by_dif2 _ (λ m n. simp difs (dif-same _ _ _ _ (omega arith)))

meet_new : (q : Point) (r v : List Fp) → (eval v q.at ≡ zeroₚ → ⊥) → eval (newton_step q r v) q.at ≡ q.value
meet_new q r v ne =
    eval-add r _ q.at ∙ ap (λ y. eval r q.at +ₚ y) (eval-scale _ v q.at) ∙ new_ring q.value (eval r q.at) (eval v q.at) (invₚ (eval v q.at))
    ∙ ap (λ y. eval r q.at +ₚ (q.value -ₚ eval r q.at) *ₚ y) (mul_invₚ (eval v q.at) ne) ∙ back_ring q.value (eval r q.at)

pub newton_passes : (qs : List Point) → Distinct (points qs) → Passes (newton qs) qs
newton_passes [] d = tt
newton_passes (q ∷ qs) d = (
  meet_new q (newton qs) (vanish (points qs)) (vanish_outside q.at (points qs) d.0),
  keep_old (newton qs) (vanish (points qs)) _ qs (newton_passes qs d.1) (vanish_roots (points qs)),
)
