-- The weights of distinct points: their sum with the values of a short polynomial is zero.
use Rattle.std.proofs.Common.{◌≡◌, ℕ, zero, suc, ◌+◌, ◌-◌, ◌<◌, ◌≤◌, List, [], ◌∷◌, length, refl, sym, ap, ap₂, ◌∙◌, subst, arith, inl, inr, ◌⊎◌}
use Rattle.std.proofs.lemmas.List.{get_or_past}
use Rattle.algebra61.specs.Inverse.{invₚ}
use Rattle.algebra61.specs.Field.{Fp, ◌+ₚ◌, ◌*ₚ◌, ◌-ₚ◌, negₚ, zeroₚ, oneₚ}
use Rattle.algebra61.specs.Poly.{eval, coeff, AllZero, Outside, Distinct, AllRoots, add_list, scale_list, mul_list}
use Rattle.algebra61.proofs.Ring.{mul_zero, zero_mul, mul_one, one_mul, zero_add, add_zero, sub_self, dif-same, difs, by_dif1, by_dif3}
use Rattle.algebra61.proofs.Inverse.{mul_invₚ, same_or_not}
use Rattle.algebra61.proofs.PolyOps.{eval-add, eval-scale, eval-sub, length-add, length-scale, length-sub, sub_list}
use Rattle.algebra61.proofs.Roots.{too_many_roots}
use Rattle.algebra61.proofs.Interpolate.{vanish, eval-vanish, vanish_outside}

-- ---- coefficients
pub coeff-add : (p q : List Fp) (k : ℕ) → coeff (add_list p q) k ≡ coeff p k +ₚ coeff q k
coeff-add [] q k = sym (zero_add (coeff q k))
coeff-add (a ∷ p) [] k = sym (add_zero (coeff (a ∷ p) k))
coeff-add (a ∷ p) (b ∷ q) zero = refl
coeff-add (a ∷ p) (b ∷ q) (suc k) = coeff-add p q k

pub coeff-scale : (c : Fp) (p : List Fp) (k : ℕ) → coeff (scale_list c p) k ≡ c *ₚ coeff p k
coeff-scale c [] k = sym (mul_zero c)
coeff-scale c (a ∷ p) zero = refl
coeff-scale c (a ∷ p) (suc k) = coeff-scale c p k

pub coeff-all_zero : (p : List Fp) (k : ℕ) → AllZero p → coeff p k ≡ zeroₚ
coeff-all_zero [] k z = refl
coeff-all_zero (a ∷ p) zero z = z.0
coeff-all_zero (a ∷ p) (suc k) z = coeff-all_zero p k z.1

pub coeff_past : (p : List Fp) (k : ℕ) → length p ≤ k → coeff p k ≡ zeroₚ
coeff_past p k h = get_or_past p k zeroₚ h

one_zero : (n : ℕ) → coeff (zeroₚ ∷ []) n ≡ zeroₚ
one_zero zero = refl
one_zero (suc n) = refl

-- the top coefficient of a product of lists of m + 1 and n + 1
pub coeff_top : (p q : List Fp) (m n : ℕ) → length p ≡ suc m → length q ≡ suc n → coeff (mul_list p q) (m + n) ≡ coeff p m *ₚ coeff q n
coeff_top [] q m n e h = absurd (omega arith)
coeff_top (a ∷ []) q m n e h =
    let z : m ≡ 0 = omega (arith, e) in
    let k : m + n ≡ n = omega (arith, z) in
    coeff-add (scale_list a q) (zeroₚ ∷ []) (m + n) ∙ rw (k, z) (ap₂ (λ x y. x +ₚ y) (coeff-scale a q n) (one_zero n) ∙ add_zero (a *ₚ coeff q n))
coeff_top (a ∷ b ∷ p) q zero n e h = absurd (omega (arith, e))
coeff_top (a ∷ b ∷ p) q (suc m) n e h =
    let k : suc m + n ≡ suc (m + n) = omega arith in
    let past : length q ≤ suc (m + n) = omega (arith, h) in
    rw k (coeff-add (scale_list a q) (zeroₚ ∷ mul_list (b ∷ p) q) (suc (m + n))
    ∙ ap₂ (λ x y. x +ₚ y) (coeff-scale a q (suc (m + n)) ∙ ap (λ x. a *ₚ x) (coeff_past q (suc (m + n)) past) ∙ mul_zero a) (coeff_top (b ∷ p) q m n (omega (arith, e)) h)
    ∙ zero_add (coeff (b ∷ p) m *ₚ coeff q n))

-- ---- the points but one
abbrev pub unless : {A : Type 0} → (A ⊎ (A → ⊥)) → Fp → List Fp → List Fp
unless (inl e) y ys = ys
unless (inr n) y ys = y ∷ ys

abbrev pub others : Fp → List Fp → List Fp
others x [] = []
others x (y ∷ ys) = unless (same_or_not x y) y (others x ys)

abbrev pub Among : Fp → List Fp → Type 0
Among x [] = ⊥
Among x (y ∷ ys) = (x ≡ y) ⊎ Among x ys

outside_unless : (x y : Fp) (ys : List Fp) (d : (x ≡ y) ⊎ (x ≡ y → ⊥)) → Outside x ys → Outside x (unless d y ys)
outside_unless x y ys (inl e) o = o
outside_unless x y ys (inr n) o = (n, o)

kept_unless : (x y : Fp) (ys : List Fp) (d : (x ≡ y) ⊎ (x ≡ y → ⊥)) → (x ≡ y → ⊥) → length (unless d y ys) ≡ suc (length ys)
kept_unless x y ys (inl e) n = absurd (n e)
kept_unless x y ys (inr m) n = refl

left_unless : (x y : Fp) (ys : List Fp) (d : (x ≡ y) ⊎ (x ≡ y → ⊥)) → x ≡ y → length (unless d y ys) ≡ length ys
left_unless x y ys (inl h) e = refl
left_unless x y ys (inr n) e = absurd (n e)

among_head : (x y z : Fp) (zs : List Fp) (d : (x ≡ z) ⊎ (x ≡ z → ⊥)) → (x ≡ y → ⊥) → y ≡ z → Among y (unless d z zs)
among_head x y z zs (inl h) n e = absurd (n (h ∙ sym e))
among_head x y z zs (inr m) n e = inl e

among_tail : (x y z : Fp) (zs : List Fp) (d : (x ≡ z) ⊎ (x ≡ z → ⊥)) → Among y zs → Among y (unless d z zs)
among_tail x y z zs (inl h) a = a
among_tail x y z zs (inr m) a = inr a

among_outside : (x y : Fp) (ys : List Fp) → Outside y ys → Among x ys → y ≡ x → ⊥
among_outside x y [] o a e = a
among_outside x y (z ∷ zs) o (inl h) e = o.0 (e ∙ h)
among_outside x y (z ∷ zs) o (inr h) e = among_outside x y zs o.1 h e

pub outside_others : (x : Fp) (ys : List Fp) → Outside x (others x ys)
outside_others x [] = tt
outside_others x (y ∷ ys) = outside_unless x y (others x ys) (same_or_not x y) (outside_others x ys)

others_outside : (x : Fp) (ys : List Fp) → Outside x ys → length (others x ys) ≡ length ys
others_outside x [] o = refl
others_outside x (y ∷ ys) o = kept_unless x y (others x ys) (same_or_not x y) o.0 ∙ ap suc (others_outside x ys o.1)

pub others_count : (x : Fp) (ys : List Fp) → Distinct ys → Among x ys → suc (length (others x ys)) ≡ length ys
others_count x [] d a = absurd a
others_count x (y ∷ ys) d (inl e) = ap suc (left_unless x y (others x ys) (same_or_not x y) e ∙ others_outside x ys (subst (λ z. Outside z ys) (sym e) d.0))
others_count x (y ∷ ys) d (inr a) = ap suc (kept_unless x y (others x ys) (same_or_not x y) (λ e. among_outside x y ys d.0 a (sym e)) ∙ others_count x ys d.1 a)

pub among_others : (x y : Fp) (ys : List Fp) → (x ≡ y → ⊥) → Among y ys → Among y (others x ys)
among_others x y [] n a = a
among_others x y (z ∷ zs) n (inl e) = among_head x y z (others x zs) (same_or_not x z) n e
among_others x y (z ∷ zs) n (inr a) = among_tail x y z (others x zs) (same_or_not x z) (among_others x y zs n a)

pub root_among : (y : Fp) (rs : List Fp) → Among y rs → eval (vanish rs) y ≡ zeroₚ
root_among y [] a = absurd a
root_among y (r ∷ rs) (inl e) = eval-vanish r y rs ∙ ap (λ x. (y -ₚ x) *ₚ eval (vanish rs) y) (sym e) ∙ ap (λ x. x *ₚ eval (vanish rs) y) (sub_self y) ∙ zero_mul (eval (vanish rs) y)
root_among y (r ∷ rs) (inr a) = eval-vanish r y rs ∙ ap (λ x. (y -ₚ r) *ₚ x) (root_among y rs a) ∙ mul_zero (y -ₚ r)

-- ---- weights
unfoldable pub weight : List Fp → Fp → Fp
weight all x = invₚ (eval (vanish (others x all)) x)

-- the sum of weight times value
abbrev pub weighted : List Fp → List Fp → List Fp → Fp
weighted all [] q = zeroₚ
weighted all (x ∷ xs) q = weight all x *ₚ eval q x +ₚ weighted all xs q

-- the interpolation of q at xs, by the basis of all
abbrev pub lagrange : List Fp → List Fp → List Fp → List Fp
lagrange all [] q = []
lagrange all (x ∷ xs) q = add_list (scale_list (weight all x *ₚ eval q x) (vanish (others x all))) (lagrange all xs q)

pub eval_term : (all : List Fp) (x y : Fp) (xs q : List Fp) → eval (lagrange all (x ∷ xs) q) y ≡ (weight all x *ₚ eval q x) *ₚ eval (vanish (others x all)) y +ₚ eval (lagrange all xs q) y
eval_term all x y xs q = eval-add _ (lagrange all xs q) y ∙ ap (λ v. v +ₚ eval (lagrange all xs q) y) (eval-scale _ (vanish (others x all)) y)

lagrange_outside : (all : List Fp) (y : Fp) (xs q : List Fp) → Among y all → Outside y xs → eval (lagrange all xs q) y ≡ zeroₚ
lagrange_outside all y [] q a o = refl
lagrange_outside all y (x ∷ xs) q a o =
    eval_term all x y xs q
    ∙ rw (root_among y (others x all) (among_others x y all (λ e. o.0 (sym e)) a), lagrange_outside all y xs q a o.1) (simp (mul_zero, add_zero))

term_ring : (w v e : Fp) → (w *ₚ v) *ₚ e ≡ v *ₚ (e *ₚ w)
term_ring = by_dif3 _ (λ m n k. simp difs (dif-same _ _ _ _ (omega arith)))

term_here : (all : List Fp) (x : Fp) (q : List Fp) → (weight all x *ₚ eval q x) *ₚ eval (vanish (others x all)) x ≡ eval q x
unfolding weight
term_here all x q =
    term_ring (weight all x) (eval q x) (eval (vanish (others x all)) x)
    ∙ ap (λ v. eval q x *ₚ v) (mul_invₚ (eval (vanish (others x all)) x) (vanish_outside x (others x all) (outside_others x all)))
    ∙ mul_one (eval q x)

pub lagrange_at : (all : List Fp) (y : Fp) (xs q : List Fp) → Among y all → Distinct xs → Among y xs → eval (lagrange all xs q) y ≡ eval q y
lagrange_at all y [] q a d i = absurd i
lagrange_at all y (x ∷ xs) q a d (inl e) =
    eval_term all x y xs q
    ∙ ap₂ (λ u v. u +ₚ v)
    (subst (λ z. (weight all z *ₚ eval q z) *ₚ eval (vanish (others z all)) y ≡ eval q y) e (term_here all y q))
    (lagrange_outside all y xs q a (subst (λ z. Outside z xs) (sym e) d.0))
    ∙ add_zero (eval q y)
lagrange_at all y (x ∷ xs) q a d (inr i) =
    eval_term all x y xs q
    ∙ ap₂ (λ u v. u +ₚ v)
    (ap (λ v. (weight all x *ₚ eval q x) *ₚ v) (root_among y (others x all) (among_others x y all (λ e. among_outside y x xs d.0 i e) a)) ∙ mul_zero (weight all x *ₚ eval q x))
    (lagrange_at all y xs q a d.1 i)
    ∙ zero_add (eval q y)

-- ---- the top coefficient
pub length-vanish_exact : (rs : List Fp) → length (vanish rs) ≡ suc (length rs)
length-vanish_exact [] = refl
length-vanish_exact (r ∷ rs) =
    let v : List Fp = vanish rs in
    omega (
      arith,
      length-add (scale_list (negₚ r) v) (zeroₚ ∷ add_list (scale_list oneₚ v) (zeroₚ ∷ [])),
      length-scale (negₚ r) v,
      length-add (scale_list oneₚ v) (zeroₚ ∷ []),
      length-scale oneₚ v,
      length-vanish_exact rs,
    )

pub top_vanish : (rs : List Fp) → coeff (vanish rs) (length rs) ≡ oneₚ
top_vanish [] = refl
top_vanish (r ∷ rs) =
    let k : suc (length rs) ≡ 1 + length rs = omega arith in
    rw k (coeff_top (negₚ r ∷ oneₚ ∷ []) (vanish rs) 1 (length rs) refl (length-vanish_exact rs) ∙ one_mul (coeff (vanish rs) (length rs)) ∙ top_vanish rs)

lagrange_top : (all xs q : List Fp) (n : ℕ) → ((x : Fp) → Among x xs → Among x all) → Distinct all → length all ≡ suc n → coeff (lagrange all xs q) n ≡ weighted all xs q
lagrange_top all [] q n into d h = refl
lagrange_top all (x ∷ xs) q n into d h =
    let k : n ≡ length (others x all) = omega (arith, h, others_count x all d (into x (inl refl))) in
    coeff-add _ (lagrange all xs q) n
    ∙ ap₂ (λ u v. u +ₚ v)
    (coeff-scale _ (vanish (others x all)) n
    ∙ ap (λ v. (weight all x *ₚ eval q x) *ₚ v) (ap (coeff (vanish (others x all))) k ∙ top_vanish (others x all))
    ∙ mul_one (weight all x *ₚ eval q x))
    (lagrange_top all xs q n (λ y a. into y (inr a)) d h)

pub lagrange_short : (all xs q : List Fp) → ((x : Fp) → Among x xs → Among x all) → Distinct all → length (lagrange all xs q) ≤ length all
lagrange_short all [] q into d = omega arith
lagrange_short all (x ∷ xs) q into d =
    omega (
      arith,
      length-add (scale_list (weight all x *ₚ eval q x) (vanish (others x all))) (lagrange all xs q),
      length-scale (weight all x *ₚ eval q x) (vanish (others x all)),
      length-vanish_exact (others x all),
      others_count x all d (into x (inl refl)),
      lagrange_short all xs q (λ y a. into y (inr a)) d,
    )

pub lagrange_roots : (all xs q : List Fp) → ((x : Fp) → Among x xs → Among x all) → Distinct all → AllRoots (sub_list q (lagrange all all q)) xs
lagrange_roots all [] q into d = tt
lagrange_roots all (x ∷ xs) q into d = (
  eval-sub q (lagrange all all q) x ∙ ap (λ v. eval q x -ₚ v) (lagrange_at all x all q (into x (inl refl)) d (into x (inl refl))) ∙ sub_self (eval q x),
  lagrange_roots all xs q (λ y a. into y (inr a)) d,
)

minus_ring : (b : Fp) → b ≡ negₚ (zeroₚ +ₚ negₚ oneₚ *ₚ b)
minus_ring = by_dif1 _ (λ m. simp difs (dif-same _ _ _ _ (omega arith)))

neg_zero : negₚ zeroₚ ≡ zeroₚ
neg_zero = simp difs (dif-same _ _ _ _ (omega arith))

minus_zero : (b : Fp) → zeroₚ +ₚ negₚ oneₚ *ₚ b ≡ zeroₚ → b ≡ zeroₚ
minus_zero b h = minus_ring b ∙ ap negₚ h ∙ neg_zero

-- the sum of weight times value of a polynomial shorter than the list is zero
pub weights_kill : (all q : List Fp) → Distinct all → length q < length all → weighted all all q ≡ zeroₚ
weights_kill all q d lt =
    let n : ℕ = length all - 1 in
    let h : length all ≡ suc n = omega arith in
    let zero_all = too_many_roots (sub_list q (lagrange all all q)) all
    (omega (arith, length-sub q (lagrange all all q), lagrange_short all all q (λ y a. a) d, lt)) d (lagrange_roots all all q (λ y a. a) d) in
    let top = coeff-all_zero (sub_list q (lagrange all all q)) n zero_all in
    let parts = coeff-add q (scale_list (negₚ oneₚ) (lagrange all all q)) n
    ∙ ap₂ (λ u v. u +ₚ v) (coeff_past q n (omega (arith, lt, h))) (coeff-scale (negₚ oneₚ) (lagrange all all q) n) in
    sym (lagrange_top all all q n (λ y a. a) d h) ∙ minus_zero (coeff (lagrange all all q) n) (sym parts ∙ top)
