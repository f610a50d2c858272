-- Receivers as members of a grid: their points differ, and what pairs say of each other is what the crossing theorem reads.
use Rattle.std.proofs.Common.{◌≡◌, ℕ, zero, suc, ◌<◌, ◌≤◌, Bool, true, false, List, [], ◌∷◌, length, refl, sym, ap, arith, take}
use Rattle.algebra61.specs.Field.{Fp, Prime, fe}
use Rattle.algebra61.specs.Poly.{Outside, Distinct}
use Rattle.algebra61.specs.Grid.{Holder, Facing, holder_points}
use Rattle.algebra61.proofs.Ring.{num-fe_small}
use Rattle.sharing61.specs.Rules.{Pair, at_point, swapped}
use Rattle.sharing61.specs.declared.Crossing.{Crossing}
use Rattle.sharing61.specs.Instance.{Instance, held}
use Rattle.algebra61.proofs.Further.{FacedBy}
use Rattle.sharing61.proofs.Count.{picked, picked_one}

abbrev pub Each : (ℕ → Type 0) → List ℕ → Type 0
Each P [] = Unit {0}
Each P (k ∷ ks) = P k × Each P ks

each_one : (P : ℕ → Type 0) (b : Bool) (k : ℕ) (ks : List ℕ) → (b ≡ true → P k) → Each P ks → Each P (picked_one b k ks)
each_one P true k ks h e = (h refl, e)
each_one P false k ks h e = e

pub each_picked : (P : ℕ → Type 0) (n : ℕ) (f : ℕ → Bool) → ((k : ℕ) → 1 ≤ k → k ≤ n → f k ≡ true → P k) → Each P (picked n f)
each_picked P zero f h = tt
each_picked P (suc n) f h =
    each_one P (f (suc n)) (suc n) (picked n f) (h (suc n) (omega arith) (omega arith)) (each_picked P n f (λ k a b. h k a (omega arith)))

pub each_take : (P : ℕ → Type 0) (n : ℕ) (ks : List ℕ) → Each P ks → Each P (take n ks)
each_take P zero ks e = tt
each_take P (suc n) [] e = tt
each_take P (suc n) (k ∷ ks) e = (e.0, each_take P n ks e.1)

pub each_map : (P Q : ℕ → Type 0) → ((k : ℕ) → P k → Q k) → (ks : List ℕ) → Each P ks → Each Q ks
each_map P Q h [] e = tt
each_map P Q h (k ∷ ks) e = (h k e.0, each_map P Q h ks e.1)

-- each number is above those that follow
abbrev pub Falling : List ℕ → Type 0
Falling [] = Unit {0}
Falling (k ∷ ks) = Each (λ j. j < k) ks × Falling ks

falling_one : (b : Bool) (k : ℕ) (ks : List ℕ) → Each (λ j. j < k) ks → Falling ks → Falling (picked_one b k ks)
falling_one true k ks a f = (a, f)
falling_one false k ks a f = f

pub falling_picked : (n : ℕ) (f : ℕ → Bool) → Falling (picked n f)
falling_picked zero f = tt
falling_picked (suc n) f = falling_one (f (suc n)) (suc n) (picked n f) (each_picked (λ j. j < suc n) n f (λ k a b e. omega arith)) (falling_picked n f)

pub falling_take : (n : ℕ) (ks : List ℕ) → Falling ks → Falling (take n ks)
falling_take zero ks f = tt
falling_take (suc n) [] f = tt
falling_take (suc n) (k ∷ ks) f = (each_take (λ j. j < k) n ks f.0, falling_take n ks f.1)

abbrev pub member_at : ℕ → Pair → Holder
member_at j p = record { at = fe j; across = p.row.coeffs; down = p.column.coeffs }

abbrev pub team : Instance → List ℕ → List Holder
team i [] = []
team i (k ∷ ks) = member_at k (held i k) ∷ team i ks

pub length-team : (i : Instance) (ks : List ℕ) → length (team i ks) ≡ length ks
length-team i [] = refl
length-team i (k ∷ ks) = ap suc (length-team i ks)

apart_below : (n k : ℕ) → k < n → n < Prime → fe n ≡ fe k → ⊥
apart_below n k lt h e = omega (arith, num-fe_small n h, num-fe_small k (omega arith), ap (λ (x : Fp). x.num) e)

outside_team : (i : Instance) (n : ℕ) (ks : List ℕ) → n < Prime → Each (λ j. j < n) ks → Outside (fe n) (holder_points (team i ks))
outside_team i n [] h e = tt
outside_team i n (k ∷ ks) h e = (apart_below n k e.0 h, outside_team i n ks h e.1)

pub distinct_team : (i : Instance) (ks : List ℕ) → Falling ks → Each (λ j. j < Prime) ks → Distinct (holder_points (team i ks))
distinct_team i [] f h = tt
distinct_team i (k ∷ ks) f h = (outside_team i k ks h.0 f.0, distinct_team i ks f.1 h.1)

-- ---- what a pair of j and the pairs of some receivers say of each other
abbrev pub Agrees : Instance → ℕ → Pair → ℕ → Type 0
Agrees i j p k = at_point p k ≡ swapped (at_point (held i k) j)

pub facing_team : (i : Instance) (j : ℕ) (p : Pair) (ks : List ℕ) → Each (Agrees i j p) ks → Facing (member_at j p) (team i ks)
facing_team i j p [] e = tt
facing_team i j p (k ∷ ks) e = (sym (ap (λ (t : Crossing). t.column) e.0), facing_team i j p ks e.1)

pub faced_team : (i : Instance) (j : ℕ) (p : Pair) (ks : List ℕ) → Each (Agrees i j p) ks → FacedBy (member_at j p) (team i ks)
faced_team i j p [] e = tt
faced_team i j p (k ∷ ks) e = (sym (ap (λ (t : Crossing). t.row) e.0), faced_team i j p ks e.1)
