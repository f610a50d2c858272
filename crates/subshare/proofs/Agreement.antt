-- Values that lie on one polynomial.
use Rattle.std.proofs.Common.{◌≡◌, ℕ, zero, suc, ◌+◌, ◌<◌, ◌≤◌, List, [], ◌∷◌, length, min, take, Bool, true, false, eqb, refl, sym, ap, ◌∙◌, arith}
use Rattle.std.specs.Prelude.{Option, Some, None}
use Rattle.std.proofs.lemmas.List.{length-take}
use Rattle.algebra61.specs.Field.{Fp, fe}
use Rattle.algebra61.specs.Poly.{eval, Outside, Distinct, points, Passes}
use Rattle.algebra61.specs.Polynomial.{Polynomial, same_coeffs}
use Rattle.algebra61.specs.Nearest.{present, wrong, wrong_one, IsNearest}
use Rattle.algebra61.proofs.Near.{same_by_test}
use Rattle.algebra61.proofs.NearestLemmas.{present_missing, through_once}
use Rattle.poly61.specs.Points.{pairs, IsThrough}
use Rattle.rs61.specs.Decoding.{present_pairs}
use Rattle.rs61.proofs.Candidate.{pairs-present, length-pairs, present_differ}
use Rattle.subshare.specs.Opening.{Agree}

-- ---- the first values that are there
outside_first : (k : ℕ) (x : Fp) (l : List (Fp × Fp)) → Outside x (points (pairs l)) → Outside x (points (pairs (take k l)))
outside_first zero x l o = tt
outside_first (suc k) x [] o = tt
outside_first (suc k) x (q ∷ l) o = (o.0, outside_first k x l o.1)

distinct_first : (k : ℕ) (l : List (Fp × Fp)) → Distinct (points (pairs l)) → Distinct (points (pairs (take k l)))
distinct_first zero l d = tt
distinct_first (suc k) [] d = tt
distinct_first (suc k) (q ∷ l) d = (outside_first k q.0 l d.0, distinct_first k l d.1)

pub first_differ : (k : ℕ) (vs : List (Option Fp)) (l : List (Fp × Fp)) → length vs ≤ 30 → l ≡ take k (present_pairs 1 vs) → Distinct (points (pairs l))
first_differ k vs l few e = rw e (distinct_first k (present_pairs 1 vs) (present_differ vs (present_pairs 1 vs) few refl))

none_wrong : (b : Bool) (k : ℕ) (ks : List ℕ) → wrong_one b k ks ≡ [] → (b ≡ true) × (ks ≡ [])
none_wrong true k ks e = (refl, e)
none_wrong false k ks e = absurd (omega (arith, ap length e))

-- a polynomial on which all values lie has the first ones
passes_first : (p : List Fp) (n k : ℕ) (vs : List (Option Fp)) → wrong p n vs ≡ [] → Passes p (pairs (take k (present_pairs n vs)))
passes_first p n zero vs e = tt
passes_first p n (suc k) [] e = tt
passes_first p n (suc k) (None ∷ vs) e = passes_first p (suc n) (suc k) vs e
passes_first p n (suc k) (Some v ∷ vs) e =
    let r = none_wrong (eqb (eval p (fe n)).num v.num) n (wrong p (suc n) vs) e in
    (same_by_test (eval p (fe n)) v r.0, passes_first p (suc n) k vs r.1)

-- ---- what agreed answers
length-first : (k : ℕ) (vs : List (Option Fp)) (l : List (Fp × Fp)) → l ≡ take k (present_pairs 1 vs) → length l ≡ min k (length (present 1 vs))
length-first k vs l e =
    ap length e ∙ length-take k (present_pairs 1 vs) ∙ ap (λ (n : ℕ). min k n) (sym (length-pairs (present_pairs 1 vs)) ∙ ap length (pairs-present 1 vs))

pub none_by_few : (d : ℕ) (vs : List (Option Fp)) (l : List (Fp × Fp)) → l ≡ take (d + 1) (present_pairs 1 vs) → length l ≤ d → (p : Polynomial) → Agree d vs p → ⊥
none_by_few d vs l e le p h = omega (arith, h.many, length-first (d + 1) vs l e, le)

-- the interpolant of the first values
pub record IsFirst (d : ℕ) (vs : List (Option Fp)) (r : Polynomial) : Type 0 where
  pub list : List (Fp × Fp)
  pub is : list ≡ take (d + 1) (present_pairs 1 vs)
  pub long : length list ≡ d + 1
  pub through : IsThrough (pairs list) r

pub interpolant : (d : ℕ) (vs : List (Option Fp)) (l : List (Fp × Fp)) (r : Polynomial) → l ≡ take (d + 1) (present_pairs 1 vs) → d < length l → IsThrough (pairs l) r → IsFirst d vs r
interpolant d vs l r e more t = record { list = l; is = e; long = omega (arith, more, length-first (d + 1) vs l e); through = t }

pub agrees : (d : ℕ) (vs : List (Option Fp)) (r : Polynomial) → IsFirst d vs r → wrong r.coeffs 1 vs ≡ [] → Agree d vs r
agrees d vs r f right = record {
  short = omega (arith, f.through.short, length-pairs f.list, f.long);
  right = right;
  many = omega (arith, f.long, length-first (d + 1) vs f.list f.is);
}

only_first : (d : ℕ) (vs : List (Option Fp)) (r p : Polynomial) → length vs ≤ 30 → IsFirst d vs r → Agree d vs p → p ≡ r
only_first d vs r p few f h =
    let passes : Passes p.coeffs (pairs f.list) = rw f.is (passes_first p.coeffs 1 (d + 1) vs h.right) in
    same_coeffs p r (sym p.trimmed
    ∙ through_once d (pairs f.list) p.coeffs r.coeffs (omega (arith, length-pairs f.list, f.long)) (first_differ (d + 1) vs f.list few f.is)
    (record { short = h.short; passes = passes }) (record { short = omega (arith, f.through.short, length-pairs f.list, f.long); passes = f.through.passes })
    ∙ r.trimmed)

pub none_by_wrong : (d : ℕ) (vs : List (Option Fp)) (r : Polynomial) → length vs ≤ 30 → IsFirst d vs r → (wrong r.coeffs 1 vs ≡ [] → ⊥) → (p : Polynomial) → Agree d vs p → ⊥
none_by_wrong d vs r few f ne p h = ne (ap (λ (q : Polynomial). wrong q.coeffs 1 vs) (sym (only_first d vs r p few f h)) ∙ h.right)

-- the polynomial on which the values lie is the nearest
pub nearest_by_agreement : (d : ℕ) (vs : List (Option Fp)) (p : Polynomial) → Agree d vs p → IsNearest d vs p
nearest_by_agreement d vs p h = record { short = h.short; close = omega (arith, ap length h.right, present_missing 1 vs, h.many) }
