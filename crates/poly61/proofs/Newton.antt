-- Interpolation, one point more at a time.
use Rattle.std.proofs.Common.{◌≡◌, ℕ, zero, suc, ◌+◌, ◌-◌, ◌<◌, ◌≤◌, max, List, [], ◌∷◌, ◌++◌, length, drop, get_or, inl, inr, refl, sym, ap, ◌∙◌, arith, drop-cons, le_refl, lit<}
use Rattle.std.specs.Prelude.{All}
use Rattle.std.proofs.lemmas.List.{append-nil, drop_all}
use Rattle.std.proofs.lemmas.List.Elements.{All-head, All-tail, All-nil, All-cons}
use Rattle.algebra61.specs.Field.{Prime, Fp, fe, ◌+ₚ◌, ◌*ₚ◌, ◌-ₚ◌, negₚ, zeroₚ, oneₚ}
use Rattle.algebra61.specs.Poly.{eval, AllRoots, Outside, Distinct, Point, points, Passes, add_list, scale_list, mul_list}
use Rattle.algebra61.specs.Polynomial.{Polynomial, poly}
use Rattle.algebra61.specs.Nearest.{Named}
use Rattle.algebra61.proofs.Ring.{dif-same, difs, by_dif4, by_one, add_zero, mul_zero, num-fe_small}
use Rattle.algebra61.proofs.PolyOps.{eval-add, eval-scale, eval-mul, length-add, length-scale, length-mul}
use Rattle.algebra61.proofs.Interpolate.{vanish, eval-vanish, vanish_outside, vanish_roots, factor_ring}
use Rattle.algebra61.proofs.Ext.{fe_apart}
use Rattle.poly61.specs.Points.{pairs, IsThrough, AllDiffer, IsVanisher}
use Rattle.poly61.proofs.Coefficients.{eval-poly, length-poly}

-- ---- what the two steps make
meet_ring : (y u w i : Fp) → (u +ₚ ((y -ₚ u) *ₚ i) *ₚ w) -ₚ y ≡ (y -ₚ u) *ₚ (w *ₚ i -ₚ oneₚ)
meet_ring = by_dif4 _ (λ m n k l. simp difs (dif-same _ _ _ _ (omega arith)))

-- found plus the multiple of product by factor
pub corrected_at : (f v : List Fp) (s p : Polynomial) (k z : Fp) → s ≡ poly (scale_list k v) → p ≡ poly (add_list f s.coeffs) → eval p.coeffs z ≡ eval f z +ₚ k *ₚ eval v z
corrected_at f v s p k z es ep =
    ap (λ (x : Polynomial). eval x.coeffs z) ep ∙ eval-poly (add_list f s.coeffs) z ∙ eval-add f s.coeffs z
    ∙ ap (λ x. eval f z +ₚ x) (ap (λ (x : Polynomial). eval x.coeffs z) es ∙ eval-poly (scale_list k v) z ∙ eval-scale k v z)

pub corrected_meets : (y u w i k e : Fp) → w *ₚ i ≡ oneₚ → k ≡ (y -ₚ u) *ₚ i → e ≡ u +ₚ k *ₚ w → e ≡ y
corrected_meets y u w i k e h hk he =
    he ∙ ap (λ x. u +ₚ x *ₚ w) hk ∙ by_one _ y (y -ₚ u) (w *ₚ i) oneₚ h (meet_ring y u w i)

pub corrected_keeps : (u w k e : Fp) → w ≡ zeroₚ → e ≡ u +ₚ k *ₚ w → e ≡ u
corrected_keeps u w k e h he = he ∙ ap (λ x. u +ₚ k *ₚ x) h ∙ simp (mul_zero, add_zero)

pub corrected_short : (f v : List Fp) (s p : Polynomial) (k : Fp) → s ≡ poly (scale_list k v) → p ≡ poly (add_list f s.coeffs) → length p.coeffs ≤ max (length f) (length v)
corrected_short f v s p k es ep =
    omega (
      arith,
      ap (λ (x : Polynomial). length x.coeffs) ep,
      length-poly (add_list f s.coeffs),
      length-add f s.coeffs,
      ap (λ (x : Polynomial). length x.coeffs) es,
      length-poly (scale_list k v),
      length-scale k v,
    )

-- the product with x - root
pub rooted_at : (r : Fp) (v : List Fp) (l p : Polynomial) (z : Fp) → l ≡ poly (negₚ r ∷ oneₚ ∷ []) → p ≡ poly (mul_list l.coeffs v) → eval p.coeffs z ≡ (z -ₚ r) *ₚ eval v z
rooted_at r v l p z el ep =
    ap (λ (x : Polynomial). eval x.coeffs z) ep ∙ eval-poly (mul_list l.coeffs v) z ∙ eval-mul l.coeffs v z
    ∙ ap (λ x. x *ₚ eval v z) (ap (λ (x : Polynomial). eval x.coeffs z) el ∙ eval-poly (negₚ r ∷ oneₚ ∷ []) z ∙ factor_ring r z)

pub rooted_short : (r : Fp) (v : List Fp) (l p : Polynomial) → l ≡ poly (negₚ r ∷ oneₚ ∷ []) → p ≡ poly (mul_list l.coeffs v) → length p.coeffs ≤ max (length v) 1 + 1
rooted_short r v l p el ep =
    omega (
      arith,
      ap (λ (x : Polynomial). length x.coeffs) ep,
      length-poly (mul_list l.coeffs v),
      length-mul l.coeffs v,
      ap (λ (x : Polynomial). length x.coeffs) el,
      length-poly (negₚ r ∷ oneₚ ∷ []),
    )

-- ---- the loop: f passes through the points, and v has them as its roots
pub record Built (qs : List Point) (f v : List Fp) : Type 0 where
  pub short : length f ≤ length qs
  pub passes : Passes f qs
  pub size : length v ≤ length qs + 1
  pub product : (z : Fp) → eval v z ≡ eval (vanish (points qs)) z

pub built_start : (f v : Polynomial) → f ≡ poly [] → v ≡ poly (oneₚ ∷ []) → Built [] f.coeffs v.coeffs
built_start f v ef ev = record {
  short = omega (arith, ap (λ (x : Polynomial). length x.coeffs) ef, length-poly []);
  passes = tt;
  size = omega (arith, ap (λ (x : Polynomial). length x.coeffs) ev, length-poly (oneₚ ∷ []));
  product = λ z. ap (λ (x : Polynomial). eval x.coeffs z) ev ∙ eval-poly (oneₚ ∷ []) z;
}

pub built_apart : (qs : List Point) (f v : List Fp) (x : Fp) → Built qs f v → Outside x (points qs) → eval v x ≡ zeroₚ → ⊥
built_apart qs f v x b o z = vanish_outside x (points qs) o (sym (b.product x) ∙ z)

passes_kept : (f g v : List Fp) (qs : List Point) → ((z : Fp) → eval v z ≡ zeroₚ → eval g z ≡ eval f z) → AllRoots v (points qs) → Passes f qs → Passes g qs
passes_kept f g v [] same a p = tt
passes_kept f g v (q ∷ qs) same a p = (same q.at a.0 ∙ p.0, passes_kept f g v qs same a.1 p.1)

roots_by_values : (v w xs : List Fp) → ((z : Fp) → eval v z ≡ eval w z) → AllRoots w xs → AllRoots v xs
roots_by_values v w [] h a = tt
roots_by_values v w (x ∷ xs) h a = (h x ∙ a.0, roots_by_values v w xs h a.1)

pub built_next : (q : Point) (qs : List Point) (f v g w : List Fp) → Built qs f v → length g ≤ max (length f) (length v) → eval g q.at ≡ q.value →
    ((z : Fp) → eval v z ≡ zeroₚ → eval g z ≡ eval f z) → length w ≤ max (length v) 1 + 1 → ((z : Fp) → eval w z ≡ (z -ₚ q.at) *ₚ eval v z) → Built (q ∷ qs) g w
built_next q qs f v g w b short value same size values = record {
  short = omega (arith, short, b.short, b.size);
  passes = (value, passes_kept f g v qs same (roots_by_values v (vanish (points qs)) (points qs) b.product (vanish_roots (points qs))) b.passes);
  size = omega (arith, size, b.size);
  product = λ z. values z ∙ ap (λ x. (z -ₚ q.at) *ₚ x) (b.product z) ∙ sym (eval-vanish q.at z (points qs));
}

pub distinct_drop : (k : ℕ) (l : List (Fp × Fp)) → Distinct (points (pairs l)) → Distinct (points (pairs (drop k l)))
distinct_drop zero l d = d
distinct_drop (suc k) [] d = d
distinct_drop (suc k) (q ∷ l) d = distinct_drop k l d.1

-- the points from one place further down
pub drop_back : (l : List (Fp × Fp)) (k : ℕ) (q : Fp × Fp) → 0 < k → k ≤ length l → q ≡ get_or l (k - 1) q → drop (k - 1) l ≡ q ∷ drop k l
drop_back l zero q pos le e = absurd (omega arith)
drop_back l (suc k) q pos le e =
    let same : suc k - 1 ≡ k = omega arith in
    let here : q ≡ get_or l k q = rw same at e in
    rw same (drop-cons l k q (omega (arith, le)) ∙ ap (λ x. x ∷ drop (suc k) l) (sym here))

-- what the loop needs and keeps at the point before the k-th
last_apart_from : (l : List (Fp × Fp)) (k : ℕ) (q : Fp × Fp) → Distinct (points (pairs l)) → 0 < k → k ≤ length l → q ≡ get_or l (k - 1) q → Outside q.0 (points (pairs (drop k l)))
last_apart_from l k q d pos le e = (rw (drop_back l k q pos le e) at (distinct_drop (k - 1) l d)).0

pub root_apart : (l : List (Fp × Fp)) (k : ℕ) (q : Fp × Fp) (f v : List Fp) → Distinct (points (pairs l)) → 0 < k → k ≤ length l → q ≡ get_or l (k - 1) q →
    Built (pairs (drop k l)) f v → eval v q.0 ≡ zeroₚ → ⊥
root_apart l k q f v d pos le e b = built_apart (pairs (drop k l)) f v q.0 b (last_apart_from l k q d pos le e)

pub one_point_more : (l : List (Fp × Fp)) (k : ℕ) (q : Fp × Fp) (f v g w : List Fp) → 0 < k → k ≤ length l → q ≡ get_or l (k - 1) q → Built (pairs (drop k l)) f v →
    length g ≤ max (length f) (length v) → eval g q.0 ≡ q.1 → ((z : Fp) → eval v z ≡ zeroₚ → eval g z ≡ eval f z) →
    length w ≤ max (length v) 1 + 1 → ((z : Fp) → eval w z ≡ (z -ₚ q.0) *ₚ eval v z) → Built (pairs (drop (k - 1) l)) g w
one_point_more l k q f v g w pos le e b short value same size values =
    rw (drop_back l k q pos le e) (built_next (record { at = q.0; value = q.1 }) (pairs (drop k l)) f v g w b short value same size values)

pub all_built : (l : List (Fp × Fp)) (f v : Polynomial) → f ≡ poly [] → v ≡ poly (oneₚ ∷ []) → Built (pairs (drop (length l) l)) f.coeffs v.coeffs
all_built l f v ef ev = rw (drop_all (length l) l (le_refl (length l))) (built_start f v ef ev)

pub through_end : (l : List (Fp × Fp)) (k : ℕ) (f : Polynomial) (v : List Fp) → k ≤ 0 → Built (pairs (drop k l)) f.coeffs v → IsThrough (pairs l) f
through_end l k f v le b =
    let e : k ≡ 0 = omega arith in
    let whole : Built (pairs l) f.coeffs v = rw e at b in
    record { short = whole.short; passes = whole.passes }

-- ---- the polynomial that vanishes on a set
abbrev pub roots : List ℕ → List (Fp × Fp)
roots [] = []
roots (k ∷ ks) = (fe k, zeroₚ) ∷ roots ks

abbrev pub Small : ℕ → Type 0
Small k = (1 ≤ k) × (k ≤ 30)

fe_once : (j k : ℕ) → j < Prime → k < Prime → fe j ≡ fe k → j ≡ k
fe_once j k lj lk e = sym (num-fe_small j lj) ∙ ap (λ (x : Fp). x.num) e ∙ num-fe_small k lk

root_outside : (j : ℕ) (ks : List ℕ) → j ≤ 30 → (Named j ks → ⊥) → All Small ks → Outside (fe j) (points (pairs (roots ks)))
root_outside j [] le n a = tt
root_outside j (k ∷ ks) le n a =
    ((λ e. n (inl (fe_once j k (omega (arith, le)) (omega (arith, (All-head Small _ _ a).1)) e))), root_outside j ks le (λ m. n (inr m)) (All-tail Small _ _ a))

roots_differ : (ks : List ℕ) → AllDiffer ks → All Small ks → Distinct (points (pairs (roots ks)))
roots_differ [] d a = tt
roots_differ (k ∷ ks) d a = (root_outside k ks (All-head Small _ _ a).1 d.0 (All-tail Small _ _ a), roots_differ ks d.1 (All-tail Small _ _ a))

not_named_zero : (ks : List ℕ) → All Small ks → Named 0 ks → ⊥
not_named_zero [] a m = m
not_named_zero (k ∷ ks) a (inl e) = omega (arith, (All-head Small _ _ a).0, e)
not_named_zero (k ∷ ks) a (inr m) = not_named_zero ks (All-tail Small _ _ a) m

pub all_pushed : (l : List (Fp × Fp)) (k : ℕ) (ks : List ℕ) (r : List (Fp × Fp)) → length ks ≤ k → l ++ roots (drop k ks) ≡ r → l ≡ r
all_pushed l k ks r le e = sym (append-nil l) ∙ ap (λ js. l ++ roots js) (sym (drop_all k ks le)) ∙ e

pub vanisher_differs : (ks : List ℕ) (l : List (Fp × Fp)) → AllDiffer ks → All Small ks → l ≡ (zeroₚ, oneₚ) ∷ roots ks → Distinct (points (pairs l))
vanisher_differs ks l d a e =
    rw e (root_outside 0 ks (omega arith) (not_named_zero ks a) a, roots_differ ks d a)

all_roots : (p : List Fp) (ks : List ℕ) → Passes p (pairs (roots ks)) → All (λ i. eval p (fe i) ≡ zeroₚ) ks
all_roots p [] h = All-nil (λ i. eval p (fe i) ≡ zeroₚ)
all_roots p (k ∷ ks) h = All-cons (λ i. eval p (fe i) ≡ zeroₚ) k ks h.0 (all_roots p ks h.1)

length-roots : (ks : List ℕ) → length (pairs (roots ks)) ≡ length ks
length-roots [] = refl
length-roots (k ∷ ks) = ap suc (length-roots ks)

pub vanisher_is : (ks : List ℕ) (l : List (Fp × Fp)) (p : Polynomial) → l ≡ (zeroₚ, oneₚ) ∷ roots ks → IsThrough (pairs l) p → IsVanisher ks p
vanisher_is ks l p e h =
    let t : IsThrough (pairs ((zeroₚ, oneₚ) ∷ roots ks)) p = rw e at h in
    record { short = omega (arith, t.short, length-roots ks); at_zero = t.passes.0; on_set = all_roots p.coeffs ks t.passes.1 }

-- the points 1 and 2
pub one_two : (a b : Fp) → a ≡ fe 1 → b ≡ fe 2 → Distinct (a ∷ b ∷ [])
one_two a b ea eb = (((λ e. fe_apart 1 2 (omega arith) (lit< tt) (sym (sym ea ∙ e ∙ eb))), tt), (tt, tt))
