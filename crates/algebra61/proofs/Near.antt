-- At most one polynomial is near, and the key equation finds it.
use Rattle.std.proofs.Common.{◌≡◌, ℕ, suc, ◌+◌, ◌*◌, ◌≤◌, List, [], ◌∷◌, length, Bool, true, false, eqb, eqb→eq, T, refl, sym, ◌∙◌, subst, arith}
use Rattle.algebra61.specs.Field.{Fp, ◌*ₚ◌, same_num}
use Rattle.algebra61.specs.Poly.{eval, AllZero, Outside, Distinct, AllRoots, Point, points, misses, misses_one, Near, mul_list}
use Rattle.algebra61.proofs.Ring.{sub_self}
use Rattle.algebra61.proofs.PolyOps.{eval-sub, eval-mul, length-sub, length-mul, sub_list}
use Rattle.algebra61.proofs.Roots.{too_many_roots}

pub same_by_test : (a b : Fp) → eqb a.num b.num ≡ true → a ≡ b
same_by_test a b e = same_num a b (eqb→eq _ _ (subst T (sym e) tt))

-- the points at which p has the value
abbrev pub hits_one : Bool → Fp → List Fp → List Fp
hits_one true x xs = x ∷ xs
hits_one false x xs = xs

abbrev pub hits : List Fp → List Point → List Fp
hits p [] = []
hits p (q ∷ qs) = hits_one (eqb (eval p q.at).num q.value.num) q.at (hits p qs)

hit_one : (b : Bool) (x : Fp) (xs : List Fp) (m n : ℕ) → length xs + m ≡ n → length (hits_one b x xs) + (misses_one b + m) ≡ suc n
hit_one true x xs m n h = omega (arith, h)
hit_one false x xs m n h = omega (arith, h)

pub hits_misses : (p : List Fp) (qs : List Point) → length (hits p qs) + misses p qs ≡ length qs
hits_misses p [] = refl
hits_misses p (q ∷ qs) = hit_one (eqb (eval p q.at).num q.value.num) q.at (hits p qs) (misses p qs) (length qs) (hits_misses p qs)

-- the key equation: Q (x) is v * E (x) at each point
abbrev pub KeyEquation : List Fp → List Fp → List Point → Type 0
KeyEquation e q [] = Unit {0}
KeyEquation e q (s ∷ ss) = (eval q s.at ≡ s.value *ₚ eval e s.at) × KeyEquation e q ss

key_root : (p e q : List Fp) (s : Point) (xs : List Fp) → eval q s.at ≡ s.value *ₚ eval e s.at → AllRoots (sub_list q (mul_list p e)) xs →
    (b : Bool) → eqb (eval p s.at).num s.value.num ≡ b → AllRoots (sub_list q (mul_list p e)) (hits_one b s.at xs)
key_root p e q s xs k rest true t =
    let hit : eval p s.at ≡ s.value = same_by_test (eval p s.at) s.value t in
    (eval-sub q (mul_list p e) s.at ∙ rw (k, eval-mul p e s.at, hit) (sub_self (s.value *ₚ eval e s.at)), rest)
key_root p e q s xs k rest false t = rest

outside_one : (x y : Fp) (ys : List Fp) → (x ≡ y → ⊥) → Outside x ys → (b : Bool) → Outside x (hits_one b y ys)
outside_one x y ys n o true = (n, o)
outside_one x y ys n o false = o

distinct_one : (x : Fp) (xs : List Fp) → Outside x xs → Distinct xs → (b : Bool) → Distinct (hits_one b x xs)
distinct_one x xs o d true = (o, d)
distinct_one x xs o d false = d

outside-hits : (x : Fp) (p : List Fp) (ss : List Point) → Outside x (points ss) → Outside x (hits p ss)
outside-hits x p [] o = tt
outside-hits x p (s ∷ ss) o = outside_one x s.at (hits p ss) o.0 (outside-hits x p ss o.1) (eqb (eval p s.at).num s.value.num)

distinct-hits : (p : List Fp) (ss : List Point) → Distinct (points ss) → Distinct (hits p ss)
distinct-hits p [] d = tt
distinct-hits p (s ∷ ss) d = distinct_one s.at (hits p ss) (outside-hits s.at p ss d.0) (distinct-hits p ss d.1) (eqb (eval p s.at).num s.value.num)

pub key_roots : (p e q : List Fp) (ss : List Point) → KeyEquation e q ss → AllRoots (sub_list q (mul_list p e)) (hits p ss)
key_roots p e q [] k = tt
key_roots p e q (s ∷ ss) k = key_root p e q s (hits p ss) k.0 (key_roots p e q ss k.1) (eqb (eval p s.at).num s.value.num) refl

-- where p is near, each solution is a multiple of it
pub key_exact : (m d : ℕ) (p e q : List Fp) (ss : List Point) → Distinct (points ss) →
    length p ≤ d + 1 → misses p ss ≤ m → 2 * m + d + 1 ≤ length ss →
    length e ≤ m + 1 → length q ≤ m + d + 1 → KeyEquation e q ss → AllZero (sub_list q (mul_list p e))
key_exact m d p e q ss dist lp few room le lq k =
    too_many_roots _ (hits p ss)
    (omega (arith, length-sub q (mul_list p e), length-mul p e, hits_misses p ss))
    (distinct-hits p ss dist) (key_roots p e q ss k)

-- ---- two near polynomials agree at more than d points
abbrev pub both_one : Bool → Bool → Fp → List Fp → List Fp
both_one true true x xs = x ∷ xs
both_one true false x xs = xs
both_one false b x xs = xs

abbrev pub both : List Fp → List Fp → List Point → List Fp
both p q [] = []
both p q (s ∷ ss) = both_one (eqb (eval p s.at).num s.value.num) (eqb (eval q s.at).num s.value.num) s.at (both p q ss)

count_one : (a b : Bool) (x : Fp) (xs : List Fp) (m k n : ℕ) → n ≤ length xs + m + k → suc n ≤ length (both_one a b x xs) + (misses_one a + m) + (misses_one b + k)
count_one true true x xs m k n h = omega (arith, h)
count_one true false x xs m k n h = omega (arith, h)
count_one false true x xs m k n h = omega (arith, h)
count_one false false x xs m k n h = omega (arith, h)

pub both_count : (p q : List Fp) (ss : List Point) → length ss ≤ length (both p q ss) + misses p ss + misses q ss
both_count p q [] = omega arith
both_count p q (s ∷ ss) = count_one (eqb (eval p s.at).num s.value.num) (eqb (eval q s.at).num s.value.num) s.at (both p q ss) (misses p ss) (misses q ss) (length ss) (both_count p q ss)

outside_both_one : (x y : Fp) (ys : List Fp) → (x ≡ y → ⊥) → Outside x ys → (a b : Bool) → Outside x (both_one a b y ys)
outside_both_one x y ys n o true true = (n, o)
outside_both_one x y ys n o true false = o
outside_both_one x y ys n o false b = o

outside_both : (x : Fp) (p q : List Fp) (ss : List Point) → Outside x (points ss) → Outside x (both p q ss)
outside_both x p q [] o = tt
outside_both x p q (s ∷ ss) o = outside_both_one x s.at (both p q ss) o.0 (outside_both x p q ss o.1) (eqb (eval p s.at).num s.value.num) (eqb (eval q s.at).num s.value.num)

distinct_both_one : (x : Fp) (xs : List Fp) → Outside x xs → Distinct xs → (a b : Bool) → Distinct (both_one a b x xs)
distinct_both_one x xs o d true true = (o, d)
distinct_both_one x xs o d true false = d
distinct_both_one x xs o d false b = d

distinct_both : (p q : List Fp) (ss : List Point) → Distinct (points ss) → Distinct (both p q ss)
distinct_both p q [] d = tt
distinct_both p q (s ∷ ss) d = distinct_both_one s.at (both p q ss) (outside_both s.at p q ss d.0) (distinct_both p q ss d.1) (eqb (eval p s.at).num s.value.num) (eqb (eval q s.at).num s.value.num)

root_both : (p q : List Fp) (s : Point) (xs : List Fp) → AllRoots (sub_list p q) xs → (a b : Bool) →
    eqb (eval p s.at).num s.value.num ≡ a → eqb (eval q s.at).num s.value.num ≡ b → AllRoots (sub_list p q) (both_one a b s.at xs)
root_both p q s xs r true true h k =
    let x : eval p s.at ≡ s.value = same_by_test (eval p s.at) s.value h in
    let y : eval q s.at ≡ s.value = same_by_test (eval q s.at) s.value k in
    (eval-sub p q s.at ∙ rw (x, y) (sub_self s.value), r)
root_both p q s xs r true false h k = r
root_both p q s xs r false b h k = r

roots_both : (p q : List Fp) (ss : List Point) → AllRoots (sub_list p q) (both p q ss)
roots_both p q [] = tt
roots_both p q (s ∷ ss) = root_both p q s (both p q ss) (roots_both p q ss) (eqb (eval p s.at).num s.value.num) (eqb (eval q s.at).num s.value.num) refl refl

pub near_once : (d : ℕ) (ss : List Point) (p q : List Fp) → Distinct (points ss) → Near d ss p → Near d ss q → AllZero (sub_list p q)
near_once d ss p q dist n k =
    too_many_roots _ (both p q ss) (omega (arith, length-sub p q, both_count p q ss, n.short, n.close, k.short, k.close)) (distinct_both p q ss dist) (roots_both p q ss)
