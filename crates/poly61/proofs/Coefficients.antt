-- Polynomials coefficient by coefficient, and division.
use Rattle.std.proofs.Common.{◌≡◌, ℕ, zero, suc, ◌+◌, ◌-◌, ◌<◌, ◌≤◌, inl, inr, List, [], ◌∷◌, ◌++◌, length, replicate, Bool, true, false, eqb, refl, sym, ap, ap₂, ◌∙◌, arith}
use Rattle.std.proofs.lemmas.Bool.{cases_lt}
use Rattle.algebra61.specs.Field.{Fp, ◌+ₚ◌, ◌*ₚ◌, ◌-ₚ◌, negₚ, zeroₚ, oneₚ}
use Rattle.algebra61.specs.Poly.{eval, coeff, AllZero, add_list, scale_list, mul_list}
use Rattle.algebra61.specs.Trim.{trim, put_front, unless_zero}
use Rattle.algebra61.specs.Polynomial.{Polynomial, poly, same_coeffs}
use Rattle.algebra61.proofs.Ring.{dif-same, difs, by_dif2, by_dif3, by_dif5, zero_add, add_zero, zero_mul, mul_one, sub_self}
use Rattle.algebra61.proofs.Trim.{zero_by_test, trim-all_zero, eval-trim, length-trim}
use Rattle.algebra61.proofs.PolyOps.{length-mul}
use Rattle.algebra61.proofs.Dual.{coeff-add, coeff-scale, coeff_past, coeff_top}
use Rattle.algebra61.proofs.Ext.{last_apart}

unless_coeff : (b : Bool) (c : Fp) (k : ℕ) → eqb c.num 0 ≡ b → coeff (unless_zero b c) k ≡ coeff (c ∷ []) k
unless_coeff true c zero e = sym (zero_by_test c e)
unless_coeff true c (suc k) e = refl
unless_coeff false c k e = refl

front_coeff : (c : Fp) (ds : List Fp) (k : ℕ) → coeff (put_front c ds) k ≡ coeff (c ∷ ds) k
front_coeff c [] k = unless_coeff (eqb c.num 0) c k refl
front_coeff c (d ∷ ds) k = refl

pub coeff-trim : (p : List Fp) (k : ℕ) → coeff (trim p) k ≡ coeff p k
coeff-trim [] k = refl
coeff-trim (c ∷ cs) zero = front_coeff c (trim cs) zero
coeff-trim (c ∷ cs) (suc k) = front_coeff c (trim cs) (suc k) ∙ coeff-trim cs k

-- the polynomial of a list has its coefficients, its values and at most its length
pub coeff-poly : (p : List Fp) (k : ℕ) → coeff (poly p).coeffs k ≡ coeff p k
unfolding poly
coeff-poly p k = coeff-trim p k

pub eval-poly : (p : List Fp) (x : Fp) → eval (poly p).coeffs x ≡ eval p x
unfolding poly
eval-poly p x = eval-trim p x

pub length-poly : (p : List Fp) → length (poly p).coeffs ≤ length p
unfolding poly
length-poly p = length-trim p

all_zero_by_coeffs : (p : List Fp) → ((k : ℕ) → coeff p k ≡ zeroₚ) → AllZero p
all_zero_by_coeffs [] h = tt
all_zero_by_coeffs (c ∷ cs) h = (h 0, all_zero_by_coeffs cs (λ k. h (suc k)))

pub trim_by_coeffs : (p q : List Fp) → ((k : ℕ) → coeff p k ≡ coeff q k) → trim p ≡ trim q
trim_by_coeffs [] q h = sym (trim-all_zero q (all_zero_by_coeffs q (λ k. sym (h k))))
trim_by_coeffs (a ∷ p) [] h = trim-all_zero (a ∷ p) (all_zero_by_coeffs (a ∷ p) h)
trim_by_coeffs (a ∷ p) (b ∷ q) h = ap₂ put_front (h 0) (trim_by_coeffs p q (λ k. h (suc k)))

-- equal coefficients make one polynomial
pub poly_by_coeffs : (p : Polynomial) (q : List Fp) → ((k : ℕ) → coeff p.coeffs k ≡ coeff q k) → p ≡ poly q
unfolding poly
poly_by_coeffs p q h = same_coeffs p (poly q) (sym p.trimmed ∙ trim_by_coeffs p.coeffs q h)

-- ---- coefficients of products
mul_first : (a : Fp) (p q : List Fp) → coeff (mul_list (a ∷ p) q) 0 ≡ a *ₚ coeff q 0 +ₚ zeroₚ
mul_first a p q = coeff-add (scale_list a q) (zeroₚ ∷ mul_list p q) 0 ∙ ap (λ x. x +ₚ zeroₚ) (coeff-scale a q 0)

mul_next : (a : Fp) (p q : List Fp) (k : ℕ) → coeff (mul_list (a ∷ p) q) (suc k) ≡ a *ₚ coeff q (suc k) +ₚ coeff (mul_list p q) k
mul_next a p q k = coeff-add (scale_list a q) (zeroₚ ∷ mul_list p q) (suc k) ∙ ap (λ x. x +ₚ coeff (mul_list p q) k) (coeff-scale a q (suc k))

mul_nothing : (p q : List Fp) → ((k : ℕ) → zeroₚ ≡ coeff p k) → (k : ℕ) → zeroₚ ≡ coeff (mul_list p q) k
mul_nothing [] q h k = refl
mul_nothing (a ∷ p) q h zero = sym (mul_first a p q ∙ ap (λ x. x *ₚ coeff q 0 +ₚ zeroₚ) (sym (h 0)) ∙ simp (zero_mul, add_zero))
mul_nothing (a ∷ p) q h (suc k) =
    sym (mul_next a p q k ∙ ap₂ (λ x y. x *ₚ coeff q (suc k) +ₚ y) (sym (h 0)) (sym (mul_nothing p q (λ i. h (suc i)) k)) ∙ simp (zero_mul, add_zero))

-- a product depends on the coefficients alone
pub coeff-mul_same : (p r q : List Fp) → ((k : ℕ) → coeff p k ≡ coeff r k) → (k : ℕ) → coeff (mul_list p q) k ≡ coeff (mul_list r q) k
coeff-mul_same [] r q h k = mul_nothing r q h k
coeff-mul_same (a ∷ p) [] q h k = sym (mul_nothing (a ∷ p) q (λ i. sym (h i)) k)
coeff-mul_same (a ∷ p) (b ∷ r) q h zero = mul_first a p q ∙ ap (λ x. x *ₚ coeff q 0 +ₚ zeroₚ) (h 0) ∙ sym (mul_first b r q)
coeff-mul_same (a ∷ p) (b ∷ r) q h (suc k) =
    mul_next a p q k ∙ ap₂ (λ x y. x *ₚ coeff q (suc k) +ₚ y) (h 0) (coeff-mul_same p r q (λ i. h (suc i)) k) ∙ sym (mul_next b r q k)

first_ring : (a b q : Fp) → (a +ₚ b) *ₚ q +ₚ zeroₚ ≡ (a *ₚ q +ₚ zeroₚ) +ₚ (b *ₚ q +ₚ zeroₚ)
first_ring = by_dif3 _ (λ m n k. simp difs (dif-same _ _ _ _ (omega arith)))

next_ring : (a b q u v : Fp) → (a +ₚ b) *ₚ q +ₚ (u +ₚ v) ≡ (a *ₚ q +ₚ u) +ₚ (b *ₚ q +ₚ v)
next_ring = by_dif5 _ (λ m n k l i. simp difs (dif-same _ _ _ _ (omega arith)))

pub coeff-mul_add : (p r q : List Fp) (k : ℕ) → coeff (mul_list (add_list p r) q) k ≡ coeff (mul_list p q) k +ₚ coeff (mul_list r q) k
coeff-mul_add [] r q k = sym (zero_add (coeff (mul_list r q) k))
coeff-mul_add (a ∷ p) [] q k = sym (add_zero (coeff (mul_list (a ∷ p) q) k))
coeff-mul_add (a ∷ p) (b ∷ r) q zero =
    mul_first (a +ₚ b) (add_list p r) q ∙ first_ring a b (coeff q 0) ∙ sym (ap₂ (λ x y. x +ₚ y) (mul_first a p q) (mul_first b r q))
coeff-mul_add (a ∷ p) (b ∷ r) q (suc k) =
    mul_next (a +ₚ b) (add_list p r) q k ∙ ap (λ x. (a +ₚ b) *ₚ coeff q (suc k) +ₚ x) (coeff-mul_add p r q k)
    ∙ next_ring a b (coeff q (suc k)) (coeff (mul_list p q) k) (coeff (mul_list r q) k)
    ∙ sym (ap₂ (λ x y. x +ₚ y) (mul_next a p q k) (mul_next b r q k))

-- ---- one step of the division
minus_ring : (r n : Fp) → r +ₚ negₚ oneₚ *ₚ n ≡ r -ₚ n
minus_ring = by_dif2 _ (λ m n. simp difs (dif-same _ _ _ _ (omega arith)))

-- what take_off leaves
pub left_is : (rest factor other : List Fp) (multiple negative left : Polynomial) (minus : Fp) → multiple ≡ poly (mul_list factor other) → minus ≡ negₚ oneₚ →
    negative ≡ poly (scale_list minus multiple.coeffs) → left ≡ poly (add_list rest negative.coeffs) → (k : ℕ) → coeff left.coeffs k ≡ coeff rest k -ₚ coeff (mul_list factor other) k
left_is rest factor other multiple negative left minus em e en el k =
    ap (λ (p : Polynomial). coeff p.coeffs k) el ∙ coeff-poly _ k ∙ coeff-add rest negative.coeffs k
    ∙ ap (λ x. coeff rest k +ₚ x)
    (ap (λ (p : Polynomial). coeff p.coeffs k) en ∙ coeff-poly _ k ∙ coeff-scale minus multiple.coeffs k
    ∙ ap₂ (λ x y. x *ₚ y) e (ap (λ (p : Polynomial). coeff p.coeffs k) em ∙ coeff-poly (mul_list factor other) k))
    ∙ minus_ring (coeff rest k) (coeff (mul_list factor other) k)

sum_ring : (a n r : Fp) → (a +ₚ n) +ₚ (r -ₚ n) ≡ a +ₚ r
sum_ring = by_dif3 _ (λ m n k. simp difs (dif-same _ _ _ _ (omega arith)))

-- p is q times o plus r, coefficient by coefficient
abbrev pub Parts : Polynomial → Polynomial → Polynomial → Polynomial → Type 0
Parts p o q r = (k : ℕ) → coeff p.coeffs k ≡ coeff (mul_list q.coeffs o.coeffs) k +ₚ coeff r.coeffs k

pub parts_start : (p o q : Polynomial) → q ≡ poly [] → Parts p o q p
unfolding poly
parts_start p o q e k = sym (ap (λ (x : Polynomial). coeff (mul_list x.coeffs o.coeffs) k +ₚ coeff p.coeffs k) e ∙ zero_add (coeff p.coeffs k))

pub parts_next : (p o q r n s t : Polynomial) → Parts p o q r → ((k : ℕ) → coeff t.coeffs k ≡ coeff r.coeffs k -ₚ coeff (mul_list n.coeffs o.coeffs) k) →
    s ≡ poly (add_list q.coeffs n.coeffs) → Parts p o s t
parts_next p o q r n s t h ht hs k =
    h k ∙ sym (ap₂ (λ x y. x +ₚ y)
    (ap (λ (x : Polynomial). coeff (mul_list x.coeffs o.coeffs) k) hs
    ∙ coeff-mul_same (poly (add_list q.coeffs n.coeffs)).coeffs (add_list q.coeffs n.coeffs) o.coeffs (coeff-poly (add_list q.coeffs n.coeffs)) k
    ∙ coeff-mul_add q.coeffs n.coeffs o.coeffs k)
    (ht k)
    ∙ sum_ring (coeff (mul_list q.coeffs o.coeffs) k) (coeff (mul_list n.coeffs o.coeffs) k) (coeff r.coeffs k))

pub parts_end : (p o q r : Polynomial) → Parts p o q r → p ≡ poly (add_list (mul_list q.coeffs o.coeffs) r.coeffs)
parts_end p o q r h = poly_by_coeffs p _ (λ k. h k ∙ sym (coeff-add (mul_list q.coeffs o.coeffs) r.coeffs k))

-- a polynomial is no longer than its coefficients that aren't 0
pub length_by_coeffs : (p : Polynomial) (n : ℕ) → ((k : ℕ) → n ≤ k → coeff p.coeffs k ≡ zeroₚ) → length p.coeffs ≤ n
length_by_coeffs p n h =
    elim (cases_lt n (length p.coeffs)) [
      | inr le ↦ le
      | inl lt ↦ absurd (last_apart p.coeffs (length p.coeffs - 1) p.trimmed (omega (arith, lt)) (h (length p.coeffs - 1) (omega (arith, lt))))
    ]

length-term : (c : Fp) (s : ℕ) → length (replicate s zeroₚ ++ c ∷ []) ≡ suc s
length-term c zero = refl
length-term c (suc s) = ap suc (length-term c s)

coeff-term : (c : Fp) (s : ℕ) → coeff (replicate s zeroₚ ++ c ∷ []) s ≡ c
coeff-term c zero = refl
coeff-term c (suc s) = coeff-term c s

top_ring : (l i o : Fp) → (l *ₚ i) *ₚ o ≡ l *ₚ (o *ₚ i)
top_ring = by_dif3 _ (λ m n k. simp difs (dif-same _ _ _ _ (omega arith)))

top_product : (o : List Fp) (n : Polynomial) (l i : Fp) (s m : ℕ) → length o ≡ suc m → coeff o m *ₚ i ≡ oneₚ → n ≡ poly (replicate s zeroₚ ++ (l *ₚ i) ∷ []) →
    coeff (mul_list n.coeffs o) (s + m) ≡ l
top_product o n l i s m lo hi e =
    let raw : List Fp = replicate s zeroₚ ++ (l *ₚ i) ∷ [] in
    ap (λ (x : Polynomial). coeff (mul_list x.coeffs o) (s + m)) e ∙ coeff-mul_same (poly raw).coeffs raw o (coeff-poly raw) (s + m)
    ∙ coeff_top raw o s m (length-term (l *ₚ i) s) lo ∙ ap (λ x. x *ₚ coeff o m) (coeff-term (l *ₚ i) s) ∙ top_ring l i (coeff o m)
    ∙ ap (λ x. l *ₚ x) hi ∙ mul_one l

left_past : (o : List Fp) (r n t : Polynomial) (l i : Fp) (s m : ℕ) → length o ≡ suc m → length r.coeffs ≡ s + suc m → coeff r.coeffs (s + m) ≡ l → coeff o m *ₚ i ≡ oneₚ →
    n ≡ poly (replicate s zeroₚ ++ (l *ₚ i) ∷ []) → ((k : ℕ) → coeff t.coeffs k ≡ coeff r.coeffs k -ₚ coeff (mul_list n.coeffs o) k) →
    (k : ℕ) → s + m ≤ k → coeff t.coeffs k ≡ zeroₚ
left_past o r n t l i s m lo lr hl hi e h k le =
    elim (cases_lt (s + m) k) [
      | inl lt ↦ h k ∙ ap₂ (λ x y. x -ₚ y) (coeff_past r.coeffs k (omega (arith, lr, lt)))
          (coeff_past (mul_list n.coeffs o) k
          (omega (arith, length-mul n.coeffs o, lo, ap (λ (x : Polynomial). length x.coeffs) e, length-poly (replicate s zeroₚ ++ (l *ₚ i) ∷ []), length-term (l *ₚ i) s, lt)))
          ∙ sub_self zeroₚ
      | inr ge ↦ let same : k ≡ s + m = omega (arith, le, ge) in
          rw same (h (s + m) ∙ ap₂ (λ x y. x -ₚ y) hl (top_product o n l i s m lo hi e) ∙ sub_self l)
    ]

-- each step makes what is left shorter
pub left_shorter : (o r n t : Polynomial) (l i : Fp) → 0 < length o.coeffs → length o.coeffs ≤ length r.coeffs → coeff r.coeffs (length r.coeffs - 1) ≡ l →
    coeff o.coeffs (length o.coeffs - 1) *ₚ i ≡ oneₚ → n ≡ poly (replicate (length r.coeffs - length o.coeffs) zeroₚ ++ (l *ₚ i) ∷ []) →
    ((k : ℕ) → coeff t.coeffs k ≡ coeff r.coeffs k -ₚ coeff (mul_list n.coeffs o.coeffs) k) → length t.coeffs < length r.coeffs
left_shorter o r n t l i pos le hl hi e h =
    let m : ℕ = length o.coeffs - 1 in
    let s : ℕ = length r.coeffs - length o.coeffs in
    let top : length r.coeffs - 1 ≡ s + m = omega (arith, pos, le) in
    let short : length t.coeffs ≤ s + m =
    length_by_coeffs t (s + m)
    (left_past o.coeffs r n t l i s m (omega (arith, pos)) (omega (arith, pos, le)) (ap (coeff r.coeffs) (sym top) ∙ hl) hi e h) in
    omega (arith, short, pos, le)

-- the same, by what the loop knows
pub shorter_step : (o r n t : Polynomial) (a l i f : Fp) (len size : ℕ) → 0 < length o.coeffs → size ≡ length o.coeffs → len ≡ length r.coeffs → size ≤ len →
    a ≡ coeff o.coeffs (size - 1) → a *ₚ i ≡ oneₚ → l ≡ coeff r.coeffs (len - 1) → f ≡ l *ₚ i → n ≡ poly (replicate (len - size) zeroₚ ++ f ∷ []) →
    ((k : ℕ) → coeff t.coeffs k ≡ coeff r.coeffs k -ₚ coeff (mul_list n.coeffs o.coeffs) k) → length t.coeffs < len
shorter_step o r n t a l i f len size pos es el le ea ai er ef en h =
    let places : len - size ≡ length r.coeffs - length o.coeffs = omega (arith, es, el) in
    let term_is : n ≡ poly (replicate (length r.coeffs - length o.coeffs) zeroₚ ++ (l *ₚ i) ∷ []) =
    en ∙ ap (λ (k : ℕ). poly (replicate k zeroₚ ++ f ∷ [])) places ∙ ap (λ (x : Fp). poly (replicate (length r.coeffs - length o.coeffs) zeroₚ ++ x ∷ [])) ef in
    let last : coeff r.coeffs (length r.coeffs - 1) ≡ l = ap (λ (k : ℕ). coeff r.coeffs (k - 1)) (sym el) ∙ sym er in
    let inverts : coeff o.coeffs (length o.coeffs - 1) *ₚ i ≡ oneₚ =
    ap (λ (k : ℕ). coeff o.coeffs (k - 1) *ₚ i) (sym es) ∙ ap (λ x. x *ₚ i) (sym ea) ∙ ai in
    let fewer : length t.coeffs < length r.coeffs = left_shorter o r n t l i pos (omega (arith, es, el, le)) last inverts term_is h in
    omega (arith, fewer, el)

-- the last coefficient of a polynomial that isn't zero
pub last_of : (o : Polynomial) (a : Fp) (size : ℕ) → 0 < length o.coeffs → size ≡ length o.coeffs → a ≡ coeff o.coeffs (size - 1) → a ≡ zeroₚ → ⊥
last_of o a size pos es ea z =
    last_apart o.coeffs (length o.coeffs - 1) o.trimmed (omega (arith, pos)) (ap (λ (k : ℕ). coeff o.coeffs (k - 1)) (sym es) ∙ sym ea ∙ z)
