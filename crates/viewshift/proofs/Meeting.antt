-- The interpolant through the shares that are there is the polynomial on which they lie.
use Rattle.std.proofs.Common.{◌≡◌, ℕ, zero, suc, ◌+◌, ◌*◌, ◌<◌, ◌≤◌, Bool, true, false, not, cond, List, [], ◌∷◌, length, map, get_or, Option, Some, None, refl, sym, ap, ap₂, ◌∙◌, subst, arith, add-one}
use Rattle.std.specs.List.{range_with_len}
use Rattle.std.proofs.lemmas.List.FromFn.{get_or-map-range_with_len, length-map-range_with_len}
use Rattle.algebra61.specs.Field.{Fp, Prime, fe, zeroₚ, ◌-ₚ◌}
use Rattle.algebra61.specs.Poly.{eval, Outside, Distinct, AllRoots, points, Passes}
use Rattle.algebra61.specs.Polynomial.{Polynomial}
use Rattle.algebra61.proofs.Ring.{sub_self}
use Rattle.algebra61.proofs.PolyOps.{sub_list, eval-sub}
use Rattle.algebra61.proofs.Grid.{same_everywhere}
use Rattle.algebra61.proofs.Ext.{fe_apart}
use Rattle.algebra61.proofs.Interpolate.{length-points}
use Rattle.poly61.specs.Points.{pairs, IsThrough}
use Rattle.sharing61.specs.Count.{how_many}
use Rattle.sharing61.proofs.Count.{how_many_not, how_many_same}
use Rattle.plays.specs.Said.{places, points_up_to}
use Rattle.viewshift.specs.Through.{shared_points}

-- the points
abbrev points_there : ℕ → ℕ → List (Option (List Fp)) → List Fp
points_there lane member shares = points (pairs (shared_points lane member shares))

-- ---- they differ
outside_there : (lane j k : ℕ) (shares : List (Option (List Fp))) → j < k → k + length shares ≤ Prime → Outside (fe j) (points_there lane k shares)
outside_there lane j k [] lt le = tt
outside_there lane j k (None ∷ rest) lt le = outside_there lane j (suc k) rest (omega (arith, lt)) (omega (arith, le))
outside_there lane j k (Some values ∷ rest) lt le =
    ((λ e. fe_apart j k lt (omega (arith, le)) (sym e)), outside_there lane j (suc k) rest (omega (arith, lt)) (omega (arith, le)))

distinct_there : (lane k : ℕ) (shares : List (Option (List Fp))) → k + length shares ≤ Prime → Distinct (points_there lane k shares)
distinct_there lane k [] le = tt
distinct_there lane k (None ∷ rest) le = distinct_there lane (suc k) rest (omega (arith, le))
distinct_there lane k (Some values ∷ rest) le =
    (outside_there lane k (suc k) rest (omega arith) (omega (arith, le)), distinct_there lane (suc k) rest (omega (arith, le)))

pub points_differ : (lane : ℕ) (shares : List (Option (List Fp))) (list : List (Fp × Fp)) → length shares ≤ 30 → list ≡ shared_points lane 1 shares → Distinct (points (pairs list))
points_differ lane shares list few e = subst (λ (l : List (Fp × Fp)). Distinct (points (pairs l))) (sym e) (distinct_there lane 1 shares (omega (arith, few)))

-- ---- there are enough
-- the shares of a member: none where it is down
abbrev shares_of : (ℕ → Bool) → (ℕ → ℕ → Fp) → ℕ → Option (List Fp)
shares_of down share member = cond (down member) None (Some (map (λ lane. share lane member) (places 5)))

count_one : (lane k : ℕ) (b : Bool) (values : List Fp) (rest : List (Option (List Fp))) → length (points_there lane k (cond b None (Some values) ∷ rest)) ≡ cond (not b) 1 0 + length (points_there lane (suc k) rest)
count_one lane k true values rest = omega arith
count_one lane k false values rest = omega arith

-- counting from below
first_more : (m : ℕ) (f : ℕ → Bool) → how_many (suc m) f ≡ cond (f 1) 1 0 + how_many m (λ j. f (suc j))
first_more zero f = omega arith
first_more (suc m) f = omega (arith, first_more m f)

count_there : (down : ℕ → Bool) (share : ℕ → ℕ → Fp) (lane m k : ℕ) → length (points_there lane (suc k) (map (shares_of down share) (range_with_len (suc k) m))) ≡ how_many m (λ j. not (down (k + j)))
count_there down share lane zero k = refl
count_there down share lane (suc m) k =
    count_one lane (suc k) (down (suc k)) (map (λ l. share l (suc k)) (places 5)) (map (shares_of down share) (range_with_len (suc k + 1) m))
    ∙ ap₂ (λ (a b : ℕ). a + b)
    (ap (λ (j : ℕ). cond (not (down j)) 1 0) (sym (add-one k)))
    (ap (λ (a : ℕ). length (points_there lane (suc (suc k)) (map (shares_of down share) (range_with_len a m)))) (add-one (suc k))
    ∙ count_there down share lane m (suc k)
    ∙ how_many_same m (λ j. not (down (suc k + j))) (λ j. not (down (k + suc j))) (λ j a b. ap (λ (i : ℕ). not (down i)) (omega arith)))
    ∙ sym (first_more m (λ j. not (down (k + j))))

-- ---- they agree
agree_one : (lane k : ℕ) (b : Bool) (values : List Fp) (rest : List (Option (List Fp))) (q r : List Fp) → (b ≡ false → get_or values lane zeroₚ ≡ eval q (fe k)) →
    (Passes r (pairs (shared_points lane (suc k) rest)) → AllRoots (sub_list q r) (points_there lane (suc k) rest)) →
    Passes r (pairs (shared_points lane k (cond b None (Some values) ∷ rest))) → AllRoots (sub_list q r) (points_there lane k (cond b None (Some values) ∷ rest))
agree_one lane k true values rest q r h more p = more p
agree_one lane k false values rest q r h more p =
    (eval-sub q r (fe k) ∙ ap₂ (λ (a b : Fp). a -ₚ b) (sym (h refl)) p.0 ∙ sub_self (get_or values lane zeroₚ), more p.1)

agree_there : (down : ℕ → Bool) (share : ℕ → ℕ → Fp) (lane : ℕ) (q r : List Fp) (m k : ℕ) → lane < 5 → ((j : ℕ) → k ≤ j → j < k + m → down j ≡ false → share lane j ≡ eval q (fe j)) →
    Passes r (pairs (shared_points lane k (map (shares_of down share) (range_with_len k m)))) → AllRoots (sub_list q r) (points_there lane k (map (shares_of down share) (range_with_len k m)))
agree_there down share lane q r zero k l5 h p = tt
agree_there down share lane q r (suc m) k l5 h p =
    let rest : List (Option (List Fp)) = map (shares_of down share) (range_with_len (k + 1) m) in
    agree_one lane k (down k) (map (λ l. share l k) (places 5)) rest q r
    (λ up. get_or-map-range_with_len (λ l. share l k) 0 5 lane lane zeroₚ l5 (omega arith) ∙ h k (omega arith) (omega arith) up)
    (subst (λ (a : ℕ). Passes r (pairs (shared_points lane a rest)) → AllRoots (sub_list q r) (points_there lane a rest)) (add-one k)
    (agree_there down share lane q r m (k + 1) l5 (λ j from to up. h j (omega (arith, from)) (omega (arith, to)) up)))
    p

-- where at most t of n > 2 t members are down and the others' shares lie on a polynomial of degree at most t, the interpolant is that polynomial
pub meets : (down : ℕ → Bool) (share : ℕ → ℕ → Fp) (n t lane : ℕ) (q : List Fp) (r : Polynomial) (x : Fp) → lane < 5 → n ≤ 30 → 2 * t < n → how_many n down ≤ t → length q ≤ t + 1 →
    ((j : ℕ) → 1 ≤ j → j ≤ n → down j ≡ false → share lane j ≡ eval q (fe j)) → IsThrough (pairs (shared_points lane 1 (map (shares_of down share) (points_up_to n)))) r → eval q x ≡ eval r.coeffs x
meets down share n t lane q r x l5 most half few short on through =
    let shares : List (Option (List Fp)) = map (shares_of down share) (points_up_to n) in
    let up : how_many n (λ j. not (down (0 + j))) ≡ how_many n (λ j. not (down j)) = how_many_same n (λ j. not (down (0 + j))) (λ j. not (down j)) (λ j a b. ap (λ (i : ℕ). not (down i)) (omega arith)) in
    let size : t + 1 ≤ length (points_there lane 1 shares) = omega (arith, count_there down share lane n 0, up, how_many_not n down, few, half) in
    same_everywhere q r.coeffs (points_there lane 1 shares)
    (distinct_there lane 1 shares (omega (arith, most, length-map-range_with_len (shares_of down share) 1 n)))
    (omega (arith, short, size))
    (omega (arith, through.short, length-points (pairs (shared_points lane 1 shares))))
    (agree_there down share lane q r.coeffs n 1 l5 (λ j from to u. on j from (omega (arith, to)) u) through.passes)
    x
