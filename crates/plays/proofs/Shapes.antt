-- An honest seat's messages have their shapes.
use Rattle.std.proofs.Common.{◌≡◌, ℕ, zero, suc, ◌+◌, ◌*◌, ◌<◌, ◌≤◌, Bool, true, ◌&&◌, eqb, ltb, leb, List, [], ◌++◌, length, Option, Some, None, refl, ap, ◌∙◌, arith, ◌⊎◌, inl, inr, append_assoc, length-append}
use Rattle.std.specs.List.{flat_map, range_with_len}
use Rattle.std.proofs.lemmas.Bool.{and_from, or_left, or_right, lt-ltb, le-leb, eq-eqb}
use Rattle.std.proofs.lemmas.List.FromFn.{length-map-range_with_len}
use Rattle.sharing61.specs.Rules.{Pair}
use Rattle.sharing61.specs.declared.Crossing.{Crossing}
use Rattle.talk.specs.declared.messages.Complaint.{Complaint}
use Rattle.talk.specs.declared.messages.Reveal.{Reveal}
use Rattle.talk.specs.Shape.{Shape, instances, within}
use Rattle.talk.specs.Read.{comes_before, complaints_ok, reveals_ok}
use Rattle.talk.proofs.Ascending.{complaints_from, reveals_from, complaints_are, reveals_are}
use Rattle.plays.specs.Said.{points_up_to, padded, pair_list, crossing_values, complaint_item, complaint_list, reveal_item, reveal_list, dealt_list, cross_list, vote_list}
use Rattle.plays.proofs.Dealt.{length-padded}

-- ---- lists made place by place ascend
-- (x, y) comes before (i, k)
abbrev Early : ℕ → ℕ → ℕ → ℕ → Type 0
Early x y i k = (x < i) ⊎ ((x ≡ i) × (y < k))

after_early : (x y i k : ℕ) → Early x y i k → comes_before x y i k ≡ true
after_early x y i k (inl lt) = or_left (ltb x i) (eqb x i && ltb y k) (lt-ltb x i lt)
after_early x y i k (inr e) = or_right (ltb x i) (eqb x i && ltb y k) (and_from (eqb x i) (ltb y k) (eq-eqb x i e.0) (lt-ltb y k e.1))

later : (x y i k : ℕ) → Early x y i k → Early x y i (k + 1)
later x y i k (inl lt) = inl lt
later x y i k (inr e) = inr (e.0, omega (arith, e.1))

past : (x y i k : ℕ) → Early x y i k → x < i + 1
past x y i k (inl lt) = omega (arith, lt)
past x y i k (inr e) = omega (arith, e.0)

pub within_from : (a k b : ℕ) → a ≤ k → k ≤ b → within a k b ≡ true
within_from a k b l m = and_from (leb a k) (leb k b) (le-leb a k l) (le-leb k b m)

-- what comes after (i, k) ascends after all that is early
abbrev Rest : {A : Type 0} → (ℕ → ℕ → List A → Bool) → ℕ → ℕ → List A → Type 0
Rest from i k rest = (a b : ℕ) → Early a b i k → from a b rest ≡ true

-- one item, or none, at each place (i, k)
abbrev ItemsGo : {A : Type 0} → (ℕ → ℕ → List A → Bool) → (ℕ → ℕ → List A) → ℕ → ℕ → Type 0
ItemsGo from item m n =
    (i k x y : ℕ) (rest : List _) → i < m → 1 ≤ k → k ≤ n → Early x y i k → Rest from i (k + 1) rest → from x y (item i k ++ rest) ≡ true

row_goes : {A : Type 0} (from : ℕ → ℕ → List A → Bool) (item : ℕ → ℕ → List A) (m n : ℕ) → ItemsGo from item m n →
    (i : ℕ) (rest : List A) → i < m → ((a b : ℕ) → a < i + 1 → from a b rest ≡ true) →
    (l k x y : ℕ) → 1 ≤ k → k + l ≤ n + 1 → Early x y i k → from x y (flat_map (item i) (range_with_len k l) ++ rest) ≡ true
row_goes from item m n go i rest im h zero k x y k1 kn e = h x y (past x y i k e)
row_goes from item m n go i rest im h (suc l) k x y k1 kn e =
    ap (from x y) (append_assoc (item i k) (flat_map (item i) (range_with_len (k + 1) l)) rest)
    ∙ go i k x y (flat_map (item i) (range_with_len (k + 1) l) ++ rest) im k1 (omega (arith, kn)) e
    (λ a b f. row_goes from item m n go i rest im h l (k + 1) a b (omega arith) (omega (arith, kn)) f)

all_go : {A : Type 0} (from : ℕ → ℕ → List A → Bool) (item : ℕ → ℕ → List A) (m n : ℕ) → ItemsGo from item m n → ((a b : ℕ) → from a b [] ≡ true) →
    (l i x y : ℕ) → i + l ≤ m → Early x y i 1 → from x y (flat_map (λ j. flat_map (item j) (points_up_to n)) (range_with_len i l)) ≡ true
all_go from item m n go end zero i x y le e = end x y
all_go from item m n go end (suc l) i x y le e =
    row_goes from item m n go i (flat_map (λ j. flat_map (item j) (points_up_to n)) (range_with_len (i + 1) l)) (omega (arith, le))
    (λ a b lt. all_go from item m n go end l (i + 1) a b (omega (arith, le)) (inl lt)) n 1 x y (omega arith) (omega arith) e

complaint_goes : (s : Shape) (o : ℕ → ℕ → Option Crossing) (i k x y : ℕ) (q : Option Crossing) (rest : List Complaint) → i < instances s → 1 ≤ k → k ≤ s.receivers → Early x y i k →
    Rest (complaints_from s) i (k + 1) rest → complaints_from s x y (complaint_item i k q ++ rest) ≡ true
complaint_goes s o i k x y None rest im k1 kn e h = h x y (later x y i k e)
complaint_goes s o i k x y (Some t) rest im k1 kn e h =
    and_from (comes_before x y i k) _ (after_early x y i k e)
    (and_from (ltb i (instances s) && within 1 k s.receivers) _
    (and_from (ltb i (instances s)) _ (lt-ltb i (instances s) im) (within_from 1 k s.receivers k1 kn))
    (h i k (inr (refl, omega arith))))

pub complaints_shape : (s : Shape) (o : ℕ → ℕ → Option Crossing) → complaints_ok s (complaint_list (instances s) s.receivers o) ≡ true
complaints_shape s o =
    complaints_are s (complaint_list (instances s) s.receivers o)
    ∙ all_go (complaints_from s) (λ i k. complaint_item i k (o i k)) (instances s) s.receivers
    (λ i k x y rest im k1 kn e h. complaint_goes s o i k x y (o i k) rest im k1 kn e h) (λ a b. refl)
    (instances s) 0 0 0 (omega arith) (inr (refl, omega arith))

reveal_goes : (s : Shape) (i k x y : ℕ) (q : Option Pair) (rest : List Reveal) → i < 5 → 1 ≤ k → k ≤ s.receivers → Early x y i k →
    Rest (reveals_from s) i (k + 1) rest → reveals_from s x y (reveal_item s.degree i k q ++ rest) ≡ true
reveal_goes s i k x y None rest im k1 kn e h = h x y (later x y i k e)
reveal_goes s i k x y (Some p) rest im k1 kn e h =
    let d : ℕ = s.degree + 1 in
    let r : ℕ = length (padded d p.row.coeffs) in
    let c : ℕ = length (padded d p.column.coeffs) in
    and_from (comes_before x y i k) _ (after_early x y i k e)
    (and_from (ltb i 5 && (within 1 k s.receivers && (eqb r d && eqb c d))) _
    (and_from (ltb i 5) _ (lt-ltb i 5 im)
    (and_from (within 1 k s.receivers) _ (within_from 1 k s.receivers k1 kn)
    (and_from (eqb r d) (eqb c d) (eq-eqb r d (length-padded d p.row.coeffs)) (eq-eqb c d (length-padded d p.column.coeffs)))))
    (h i k (inr (refl, omega arith))))

pub reveals_shape : (s : Shape) (o : ℕ → ℕ → Option Pair) → reveals_ok s (reveal_list s.degree s.receivers o) ≡ true
reveals_shape s o =
    reveals_are s (reveal_list s.degree s.receivers o)
    ∙ all_go (reveals_from s) (λ l k. reveal_item s.degree l k (o l k)) 5 s.receivers
    (λ l k x y rest im k1 kn e h. reveal_goes s l k x y (o l k) rest im k1 kn e h) (λ a b. refl)
    5 0 0 0 (omega arith) (inr (refl, omega arith))

-- ---- the lengths of the others
pub length-flat : {A : Type 0} (f : ℕ → List A) (n : ℕ) → ((k : ℕ) → length (f k) ≡ n) → (m a : ℕ) → length (flat_map f (range_with_len a m)) ≡ m * n
length-flat f n h zero a = omega arith
length-flat f n h (suc m) a =
    let e : suc m * n ≡ n + m * n = omega arith in
    omega (arith, length-append (f a) (flat_map f (range_with_len (a + 1) m)), h a, length-flat f n h m (a + 1), e)

pub length-dealt : (d : ℕ) (pair : ℕ → Pair) → length (dealt_list d pair) ≡ 10 * (d + 1)
length-dealt d pair =
    omega (
      arith,
      length-flat (λ l. pair_list d (pair l)) (2 * (d + 1))
          (λ l. omega (arith, length-append (padded (d + 1) (pair l).row.coeffs) (padded (d + 1) (pair l).column.coeffs), length-padded (d + 1) (pair l).row.coeffs, length-padded (d + 1) (pair l).column.coeffs)) 5 0,
    )

pub length-cross : (m : ℕ) (two : ℕ → Crossing) → length (cross_list m two) ≡ 2 * m
length-cross m two = omega (arith, length-flat (λ i. crossing_values (two i)) 2 (λ i. refl) m 0)

pub length-votes : (m : ℕ) (vote : ℕ → Bool) → length (vote_list m vote) ≡ m
length-votes m vote = length-map-range_with_len vote 0 m
