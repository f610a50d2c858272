-- The nearest polynomial of a list with missing values: at most one, and the one on which all but few values lie.
use Rattle.std.proofs.Common.{◌≡◌, ℕ, suc, ◌+◌, ◌*◌, ◌<◌, ◌≤◌, ◌⊎◌, inl, inr, List, [], ◌∷◌, length, get_or, Bool, true, false, eqb, refl, sym, ap, ◌∙◌, subst, arith}
use Rattle.std.specs.Prelude.{Option, Some, None}
use Rattle.algebra61.specs.Field.{Prime, Fp, fe}
use Rattle.algebra61.specs.Poly.{eval, Outside, Distinct, AllRoots, Point, points, Passes, Through, misses, misses_one, Near}
use Rattle.algebra61.specs.Trim.{trim}
use Rattle.algebra61.specs.Polynomial.{Polynomial, same_coeffs}
use Rattle.algebra61.specs.Nearest.{present, wrong, wrong_one, missing, Named, IsRight, IsNearest}
use Rattle.algebra61.proofs.Ring.{sub_self}
use Rattle.algebra61.proofs.PolyOps.{sub_list, eval-sub, length-sub}
use Rattle.algebra61.proofs.Roots.{too_many_roots}
use Rattle.algebra61.proofs.Interpolate.{length-points}
use Rattle.algebra61.proofs.Trim.{trim_same}
use Rattle.algebra61.proofs.Near.{near_once}
use Rattle.algebra61.proofs.Ext.{fe_apart}

pub present_missing : (k : ℕ) (vs : List (Option Fp)) → length (present k vs) + length (missing k vs) ≡ length vs
present_missing k [] = refl
present_missing k (None ∷ vs) = omega (arith, present_missing (suc k) vs)
present_missing k (Some v ∷ vs) = omega (arith, present_missing (suc k) vs)

misses_wrong : (b : Bool) (k : ℕ) (ks : List ℕ) (m : ℕ) → m ≡ length ks → misses_one b + m ≡ length (wrong_one b k ks)
misses_wrong true k ks m e = omega (arith, e)
misses_wrong false k ks m e = omega (arith, e)

-- p misses as many present points as it is wrong at
pub misses-present : (p : List Fp) (k : ℕ) (vs : List (Option Fp)) → misses p (present k vs) ≡ length (wrong p k vs)
misses-present p k [] = refl
misses-present p k (None ∷ vs) = misses-present p (suc k) vs
misses-present p k (Some v ∷ vs) =
    misses_wrong (eqb (eval p (fe k)).num v.num) k (wrong p (suc k) vs) _ (misses-present p (suc k) vs)

outside-present : (j k : ℕ) (vs : List (Option Fp)) → j < k → k + length vs ≤ Prime → Outside (fe j) (points (present k vs))
outside-present j k [] lt le = tt
outside-present j k (None ∷ vs) lt le = outside-present j (suc k) vs (omega arith) (omega (arith, le))
outside-present j k (Some v ∷ vs) lt le =
    ((λ e. fe_apart j k lt (omega (arith, le)) (sym e)), outside-present j (suc k) vs (omega arith) (omega (arith, le)))

-- the present points differ
pub distinct-present : (k : ℕ) (vs : List (Option Fp)) → k + length vs ≤ Prime → Distinct (points (present k vs))
distinct-present k [] le = tt
distinct-present k (None ∷ vs) le = distinct-present (suc k) vs (omega (arith, le))
distinct-present k (Some v ∷ vs) le =
    (outside-present k (suc k) vs (omega arith) (omega (arith, le)), distinct-present (suc k) vs (omega (arith, le)))

-- nearest to the list is near to its present points
pub near_of_nearest : (d : ℕ) (vs : List (Option Fp)) (p : Polynomial) → IsNearest d vs p → Near d (present 1 vs) p.coeffs
near_of_nearest d vs p h =
    record { short = h.short; close = omega (arith, h.close, present_missing 1 vs, misses-present p.coeffs 1 vs) }

pub nearest_of_near : (d : ℕ) (vs : List (Option Fp)) (p : Polynomial) → Near d (present 1 vs) p.coeffs → IsNearest d vs p
nearest_of_near d vs p h =
    record { short = h.short; close = omega (arith, h.close, present_missing 1 vs, misses-present p.coeffs 1 vs) }

-- unique decoding: at most one polynomial is nearest
pub nearest_once : (d : ℕ) (vs : List (Option Fp)) (p q : Polynomial) → length vs < Prime → IsNearest d vs p → IsNearest d vs q → p ≡ q
nearest_once d vs p q lt h k =
    same_coeffs p q (sym p.trimmed
    ∙ trim_same p.coeffs q.coeffs (near_once d (present 1 vs) p.coeffs q.coeffs (distinct-present 1 vs (omega arith)) (near_of_nearest d vs p h) (near_of_nearest d vs q k))
    ∙ q.trimmed)

-- ---- all but few values are right
-- the numbers other than k
abbrev without_one : Bool → ℕ → List ℕ → List ℕ
without_one true j js = js
without_one false j js = j ∷ js

abbrev without : ℕ → List ℕ → List ℕ
without k [] = []
without k (j ∷ js) = without_one (eqb k j) j (without k js)

length_one : (b : Bool) (j : ℕ) (js : List ℕ) (n : ℕ) → length js ≤ n → length (without_one b j js) ≤ suc n
length_one true j js n h = omega (arith, h)
length_one false j js n h = omega (arith, h)

length-without : (k : ℕ) (js : List ℕ) → length (without k js) ≤ length js
length-without k [] = omega arith
length-without k (j ∷ js) = length_one (eqb k j) j (without k js) (length js) (length-without k js)

same_left_out : (k j : ℕ) (js : List ℕ) → k ≡ j → without_one (eqb k j) j js ≡ js
same_left_out k j js e = let t : eqb k j ≡ true = grind arith in ap (λ b. without_one b j js) t

less_one : (b : Bool) (j : ℕ) (js : List ℕ) (n : ℕ) → suc (length js) ≤ n → suc (length (without_one b j js)) ≤ suc n
less_one true j js n h = omega (arith, h)
less_one false j js n h = omega (arith, h)

fewer-without : (k : ℕ) (js : List ℕ) → Named k js → suc (length (without k js)) ≤ length js
fewer-without k [] m = absurd m
fewer-without k (j ∷ js) (inl e) = omega (arith, ap length (same_left_out k j (without k js) e), length-without k js)
fewer-without k (j ∷ js) (inr m) = less_one (eqb k j) j (without k js) (length js) (fewer-without k js m)

here_without : (b : Bool) (k i j : ℕ) (js : List ℕ) → eqb k j ≡ b → (i ≡ k → ⊥) → i ≡ j → Named i (without_one b j js)
here_without true k i j js t n e = absurd (n (grind arith))
here_without false k i j js t n e = inl e

there_without : (b : Bool) (i j : ℕ) (js : List ℕ) → Named i js → Named i (without_one b j js)
there_without true i j js m = m
there_without false i j js m = inr m

named-without : (k i : ℕ) (js : List ℕ) → (i ≡ k → ⊥) → Named i js → Named i (without k js)
named-without k i [] n m = m
named-without k i (j ∷ js) n (inl e) = here_without (eqb k j) k i j (without k js) refl n e
named-without k i (j ∷ js) n (inr m) = there_without (eqb k j) i j (without k js) (named-without k i js n m)

-- from the point k on, each value is right, or its point is in the list
abbrev Covered : List Fp → ℕ → List (Option Fp) → List ℕ → Type 0
Covered p k vs js = (i : ℕ) → i < length vs → Named (k + i) js ⊎ (get_or vs i None ≡ Some (eval p (fe (k + i))))

rest_covered : (p : List Fp) (k : ℕ) (v : Option Fp) (vs : List (Option Fp)) (js : List ℕ) → Covered p k (v ∷ vs) js → Covered p (suc k) vs js
rest_covered p k v vs js c i lt =
    let e : k + suc i ≡ suc k + i = omega arith in
    subst (λ n. Named n js ⊎ (get_or vs i None ≡ Some (eval p (fe n)))) e (c (suc i) (omega (arith, lt)))

drop_covered : (p : List Fp) (k : ℕ) (vs : List (Option Fp)) (js : List ℕ) → Covered p (suc k) vs js → Covered p (suc k) vs (without k js)
drop_covered p k vs js c i lt =
    elim (c i lt) [ inl m ↦ inl (named-without k (suc k + i) js (λ e. omega (arith, e)) m) | inr e ↦ inr e ]

same_test : (a b : Fp) → a ≡ b → eqb a.num b.num ≡ true
same_test a b e = let n : a.num ≡ b.num = ap (λ (x : Fp). x.num) e in grind arith

right_here : (p : List Fp) (k : ℕ) (v : Fp) (ks : List ℕ) → Some v ≡ Some (eval p (fe k)) → wrong_one (eqb (eval p (fe k)).num v.num) k ks ≡ ks
right_here p k v ks e =
    let s : eval p (fe k) ≡ v = cc in ap (λ b. wrong_one b k ks) (same_test (eval p (fe k)) v s)

wrong_less : (b : Bool) (k : ℕ) (ks : List ℕ) (m n : ℕ) → length ks + m + 1 ≤ n → length (wrong_one b k ks) + m ≤ n
wrong_less true k ks m n h = omega (arith, h)
wrong_less false k ks m n h = omega (arith, h)

at_start : (p : List Fp) (k : ℕ) (v : Option Fp) (vs : List (Option Fp)) (js : List ℕ) → Covered p k (v ∷ vs) js → Named k js ⊎ (v ≡ Some (eval p (fe k)))
at_start p k v vs js c =
    let e : k + 0 ≡ k = omega arith in
    subst (λ n. Named n js ⊎ (v ≡ Some (eval p (fe n)))) e (c 0 (omega arith))

-- no more values are wrong or missing than the list has points
pub few_faults : (p : List Fp) (k : ℕ) (vs : List (Option Fp)) (js : List ℕ) → Covered p k vs js → length (wrong p k vs) + length (missing k vs) ≤ length js
few_faults p k [] js c = omega arith
few_faults p k (None ∷ vs) js c =
    elim (at_start p k None vs js c) [
      | inr e ↦ absurd (cc)
      | inl m ↦ omega (arith, few_faults p (suc k) vs (without k js) (drop_covered p k vs js (rest_covered p k None vs js c)), fewer-without k js m)
    ]
few_faults p k (Some v ∷ vs) js c =
    elim (at_start p k (Some v) vs js c) [
      | inr e ↦ omega (arith, ap length (right_here p k v (wrong p (suc k) vs) e), few_faults p (suc k) vs js (rest_covered p k (Some v) vs js c))
      | inl m ↦ wrong_less (eqb (eval p (fe k)).num v.num) k (wrong p (suc k) vs) (length (missing (suc k) vs)) (length js)
          (omega (arith, few_faults p (suc k) vs (without k js) (drop_covered p k vs js (rest_covered p k (Some v) vs js c)), fewer-without k js m))
    ]

-- with at most t values wrong or missing of more than 3 * t, a polynomial of degree at most t is the nearest
pub nearest_by_faults : (t : ℕ) (vs : List (Option Fp)) (p : Polynomial) → 3 * t < length vs → length p.coeffs ≤ t + 1 →
    length (wrong p.coeffs 1 vs) + length (missing 1 vs) ≤ t → IsNearest t vs p
nearest_by_faults t vs p lt short few = record { short = short; close = omega (arith, few, lt) }

-- the same, where the points at which the values may be wrong or missing are given
pub nearest_by_right : (t : ℕ) (vs : List (Option Fp)) (p : Polynomial) (js : List ℕ) → 3 * t < length vs → length p.coeffs ≤ t + 1 →
    length js ≤ t → ((i : ℕ) → i < length vs → Named (i + 1) js ⊎ IsRight p.coeffs vs i) → IsNearest t vs p
nearest_by_right t vs p js lt short few h =
    nearest_by_faults t vs p lt short
    (omega (
      arith,
      few,
      few_faults p.coeffs 1 vs js (λ i l. let e : i + 1 ≡ 1 + i = omega arith in
          subst (λ n. Named n js ⊎ (get_or vs i None ≡ Some (eval p.coeffs (fe n)))) e (h i l)),
    ))

-- ---- the interpolant is unique
passes_roots : (p q : List Fp) (qs : List Point) → Passes p qs → Passes q qs → AllRoots (sub_list p q) (points qs)
passes_roots p q [] h k = tt
passes_roots p q (s ∷ qs) h k = (eval-sub p q s.at ∙ rw (h.0, k.0) (sub_self s.value), passes_roots p q qs h.1 k.1)

pub through_once : (d : ℕ) (qs : List Point) (p q : List Fp) → d < length qs → Distinct (points qs) → Through d qs p → Through d qs q → trim p ≡ trim q
through_once d qs p q lt dist h k =
    trim_same p q (too_many_roots (sub_list p q) (points qs) (omega (arith, length-sub p q, h.short, k.short, length-points qs)) dist (passes_roots p q qs h.passes k.passes))
