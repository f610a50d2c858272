-- What a seat reads of what honest seats say is what the play defines.
use Rattle.std.proofs.Common.{◌≡◌, ℕ, zero, suc, ◌+◌, ◌*◌, ◌<◌, ◌≤◌, Bool, true, false, ◌&&◌, cond, eqb, List, [], ◌∷◌, ◌++◌, Option, Some, None, refl, sym, ap, ap₂, ◌∙◌, arith, get_or, inl, inr, is_none}
use Rattle.std.specs.List.{flat_map, range_with_len}
use Rattle.std.proofs.lemmas.Bool.{cases_eq, eq-eqb, ne_eqb, eqb-true, and_parts, cond-true}
use Rattle.std.proofs.lemmas.List.FromFn.{get_or-map-range_with_len}
use Rattle.algebra61.specs.Field.{Fp, zeroₚ}
use Rattle.sharing61.specs.Rules.{Pair, at_point, votes_yes, fits, settled}
use Rattle.sharing61.specs.declared.Crossing.{Crossing}
use Rattle.sharing61.specs.Instance.{held, complaint, shown, vote}
use Rattle.sharing61.proofs.Count.{everyone_same}
use Rattle.sharing61.proofs.Votes.{vote_is}
use Rattle.talk.specs.declared.messages.Post.{Post}
use Rattle.talk.specs.Shape.{instances}
use Rattle.talk.specs.Basics.{first_of}
use Rattle.plays.specs.Read.{seek, complaint_at, crossed_in, listed_in, voted_in}
use Rattle.plays.specs.Play.{Play, instance_of, seat_of}
use Rattle.plays.specs.Said.{places, points_up_to, crossing_values, complaint_item, complaint_list, crossed_by, complaints_by, votes_by, unless_down, complaints_heard}
use Rattle.plays.specs.Seat.{post_at, pair_at, heard_complaint, heard_shown, says_yes}

-- ---- look-ups in lists that were made place by place
abbrev or_else : {B : Type 0} → Option B → Option B → Option B
or_else None o = o
or_else (Some b) o = Some b

first_append : {B : Type 0} (t : Bool) (b : B) (o p : Option B) → first_of t b (or_else o p) ≡ or_else (first_of t b o) p
first_append true b o p = refl
first_append false b o p = refl

seek-append : {A B : Type 0} (t : A → Bool) (v : A → B) (xs ys : List A) → seek t v (xs ++ ys) ≡ or_else (seek t v xs) (seek t v ys)
seek-append t v [] ys = refl
seek-append t v (x ∷ xs) ys = ap (first_of (t x) (v x)) (seek-append t v xs ys) ∙ first_append (t x) (v x) (seek t v xs) (seek t v ys)

or_none : {B : Type 0} (o : Option B) → or_else o None ≡ o
or_none None = refl
or_none (Some b) = refl

level_past : {A B : Type 0} (t : A → Bool) (v : A → B) (f : ℕ → List A) (give : Option B) (k : ℕ) → ((j : ℕ) → seek t v (f j) ≡ cond (eqb j k) give None) →
    (n a : ℕ) → k < a → seek t v (flat_map f (range_with_len a n)) ≡ None
level_past t v f give k h zero a lt = refl
level_past t v f give k h (suc n) a lt =
    seek-append t v (f a) (flat_map f (range_with_len (a + 1) n))
    ∙ ap₂ or_else (h a ∙ ap (λ b. cond b give None) (ne_eqb a k (λ e. omega (arith, e, lt)))) (level_past t v f give k h n (a + 1) (omega arith))

pub level : {A B : Type 0} (t : A → Bool) (v : A → B) (f : ℕ → List A) (give : Option B) (k : ℕ) → ((j : ℕ) → seek t v (f j) ≡ cond (eqb j k) give None) →
    (n a : ℕ) → a ≤ k → k < a + n → seek t v (flat_map f (range_with_len a n)) ≡ give
level t v f give k h zero a le lt = absurd (omega (arith, le, lt))
level t v f give k h (suc n) a le lt =
    seek-append t v (f a) (flat_map f (range_with_len (a + 1) n))
    ∙ elim (cases_eq a k) [
      | inl e ↦ ap₂ or_else (h a ∙ ap (λ b. cond b give None) (eq-eqb a k e)) (level_past t v f give k h n (a + 1) (omega arith)) ∙ or_none give
      | inr ne ↦ ap₂ or_else (h a ∙ ap (λ b. cond b give None) (ne_eqb a k ne)) (level t v f give k h n (a + 1) (omega (arith, ne, le)) (omega arith))
    ]

both_cond : {B : Type 0} (b c : Bool) (x : Option B) → cond (b && c) x None ≡ cond c (cond b x None) None
both_cond true true x = refl
both_cond true false x = refl
both_cond false true x = refl
both_cond false false x = refl

pub two_level : {A B : Type 0} (t : A → Bool) (v : A → B) (f : ℕ → ℕ → List A) (give : Option B) (i k m n : ℕ) →
    ((j l : ℕ) → seek t v (f j l) ≡ cond (eqb j i && eqb l k) give None) → i < m → 1 ≤ k → k ≤ n →
    seek t v (flat_map (λ j. flat_map (f j) (points_up_to n)) (places m)) ≡ give
two_level t v f give i k m n h im k1 kn =
    level t v (λ j. flat_map (f j) (points_up_to n)) give i
    (λ j. level t v (f j) (cond (eqb j i) give None) k (λ l. h j l ∙ both_cond (eqb j i) (eqb l k) give) n 1 k1 (omega arith))
    m 0 (omega arith) (omega arith)

-- ---- crossing pairs
cross_at_row : (f : ℕ → Crossing) (m a i : ℕ) → i < m → get_or (flat_map (λ k. crossing_values (f k)) (range_with_len a m)) (2 * i) zeroₚ ≡ (f (a + i)).row
cross_at_row f zero a i lt = absurd (omega (arith, lt))
cross_at_row f (suc m) a zero lt = ap (λ k. (f k).row) (omega arith)
cross_at_row f (suc m) a (suc i) lt =
    let e : 2 * suc i ≡ suc (suc (2 * i)) = omega arith in
    let k : (a + 1) + i ≡ a + suc i = omega arith in
    rw e (cross_at_row f m (a + 1) i (omega (arith, lt)) ∙ ap (λ j. (f j).row) k)

cross_at_column : (f : ℕ → Crossing) (m a i : ℕ) → i < m → get_or (flat_map (λ k. crossing_values (f k)) (range_with_len a m)) (2 * i + 1) zeroₚ ≡ (f (a + i)).column
cross_at_column f zero a i lt = absurd (omega (arith, lt))
cross_at_column f (suc m) a zero lt = ap (λ k. (f k).column) (omega arith)
cross_at_column f (suc m) a (suc i) lt =
    let e : 2 * suc i + 1 ≡ suc (suc (2 * i + 1)) = omega arith in
    let k : (a + 1) + i ≡ a + suc i = omega arith in
    rw e (cross_at_column f m (a + 1) i (omega (arith, lt)) ∙ ap (λ j. (f j).column) k)

pub crossed_own : (p : Play) (k j i : ℕ) → i < instances p.shape → crossed_in i (crossed_by p k j) ≡ Some (at_point (held (instance_of p i) k) j)
unfolding crossed_by
crossed_own p k j i lt =
    let f : ℕ → Crossing = λ i. at_point (held (instance_of p i) k) j in
    let z : 0 + i ≡ i = omega arith in
    ap₂ (λ (a b : Fp). let t : Crossing = record { row = a; column = b } in Some t)
    (cross_at_row f (instances p.shape) 0 i lt ∙ ap (λ n. (f n).row) z)
    (cross_at_column f (instances p.shape) 0 i lt ∙ ap (λ n. (f n).column) z)

-- ---- complaints
item_some : (i k j l : ℕ) (o : ℕ → ℕ → Option Crossing) (t : Crossing) (b : Bool) → o j l ≡ Some t → (eqb j i && eqb l k) ≡ b → first_of b t None ≡ cond b (o i k) None
item_some i k j l o t true e h =
    let both = and_parts (eqb j i) (eqb l k) h in
    sym e ∙ ap₂ o (eqb-true j i both.0) (eqb-true l k both.1)
item_some i k j l o t false e h = refl

item_none : (i k j l : ℕ) (o : ℕ → ℕ → Option Crossing) (b : Bool) → o j l ≡ None → (eqb j i && eqb l k) ≡ b → None ≡ cond b (o i k) None
item_none i k j l o true e h =
    let both = and_parts (eqb j i) (eqb l k) h in
    sym e ∙ ap₂ o (eqb-true j i both.0) (eqb-true l k both.1)
item_none i k j l o false e h = refl

complaint_item_at : (i k j l : ℕ) (o : ℕ → ℕ → Option Crossing) (q : Option Crossing) → o j l ≡ q → complaint_at i k (complaint_item j l q) ≡ cond (eqb j i && eqb l k) (o i k) None
complaint_item_at i k j l o None e = item_none i k j l o (eqb j i && eqb l k) e refl
complaint_item_at i k j l o (Some t) e = item_some i k j l o t (eqb j i && eqb l k) e refl

pub complaint_listed : (m n : ℕ) (o : ℕ → ℕ → Option Crossing) (i k : ℕ) → i < m → 1 ≤ k → k ≤ n → complaint_at i k (complaint_list m n o) ≡ o i k
complaint_listed m n o i k im k1 kn =
    two_level _ _ (λ j l. complaint_item j l (o j l)) (o i k) i k m n (λ j l. complaint_item_at i k j l o (o j l) refl) im k1 kn

pub listed_own : (p : Play) (j i k : ℕ) → i < instances p.shape → 1 ≤ k → k ≤ p.shape.receivers → listed_in i k (complaints_by p j) ≡ complaint (instance_of p i) j k
unfolding complaints_by
listed_own p j i k lt k1 kn = complaint_listed (instances p.shape) p.shape.receivers (λ i. complaint (instance_of p i) j) i k lt k1 kn

-- what is heard of any receiver
heard_cases : (p : Play) (j i k : ℕ) (b : Bool) → (instance_of p i).down j ≡ b → i < instances p.shape → 1 ≤ k → k ≤ p.shape.receivers →
    listed_in i k (unless_down b (p.post 3 (seat_of p.shape j)) (complaints_by p j)) ≡ complaint (instance_of p i) j k
unfolding complaint instance_of
heard_cases p j i k true e lt k1 kn = sym (cond-true (p.down (seat_of p.shape j)) _ _ e)
heard_cases p j i k false e lt k1 kn = listed_own p j i k lt k1 kn

pub heard_complaint_is : (p : Play) (third : List Post) (i j k : ℕ) → i < instances p.shape → 1 ≤ k → k ≤ p.shape.receivers →
    post_at third (seat_of p.shape j) ≡ complaints_heard p j → heard_complaint p.shape third i j k ≡ complaint (instance_of p i) j k
unfolding instance_of
heard_complaint_is p third i j k lt k1 kn e =
    ap (listed_in i k) e ∙ heard_cases p j i k (p.down (seat_of p.shape j)) refl lt k1 kn

-- ---- votes
pub votes_same : (n : ℕ) (c d : ℕ → ℕ → Option Crossing) (s t : ℕ → Option Pair) (j : ℕ) (mine : Pair) → 1 ≤ j → j ≤ n →
    ((k l : ℕ) → 1 ≤ k → k ≤ n → 1 ≤ l → l ≤ n → c k l ≡ d k l) → ((k : ℕ) → 1 ≤ k → k ≤ n → s k ≡ t k) → votes_yes n c s j mine ≡ votes_yes n d t j mine
votes_same n c d s t j mine j1 jn hc hs =
    ap₂ (λ a b. a && b) (ap is_none (hs j j1 jn))
    (ap₂ (λ a b. a && b)
    (everyone_same n _ _ (λ k a b. ap (fits j mine k) (hs k a b)))
    (everyone_same n _ _ (λ k a b. everyone_same n _ _ (λ l x y.
    ap₂ (λ o q. settled o q (c k l) (c l k)) (hs k a b) (hs l x y) ∙ ap₂ (settled (t k) (t l)) (hc k l a b x y) (hc l k x y a b)))))

-- the vote of a seat that heard the play is the play's
pub says_yes_is : (p : Play) (third fourth : List Post) (pairs : List Pair) (i me : ℕ) → i < instances p.shape → 1 ≤ me → me ≤ p.shape.receivers → p.down (seat_of p.shape me) ≡ false →
    ((j : ℕ) → 1 ≤ j → j ≤ p.shape.receivers → post_at third (seat_of p.shape j) ≡ complaints_heard p j) →
    ((j : ℕ) → 1 ≤ j → j ≤ p.shape.receivers → heard_shown fourth i j ≡ shown (instance_of p i) j) →
    pair_at pairs i ≡ held (instance_of p i) me →
    says_yes p.shape me pairs third fourth i ≡ vote (instance_of p i) me
unfolding instance_of
says_yes_is p third fourth pairs i me lt m1 mn up h3 h4 hp =
    votes_same p.shape.receivers _ (complaint (instance_of p i)) _ (shown (instance_of p i)) me (pair_at pairs i) m1 mn
    (λ k l k1 kn l1 ln. heard_complaint_is p third i k l lt l1 ln (h3 k k1 kn)) h4
    ∙ ap (votes_yes p.shape.receivers (complaint (instance_of p i)) (shown (instance_of p i)) me) hp
    ∙ sym (vote_is (instance_of p i) me up)

pub voted_own : (p : Play) (j i : ℕ) → i < instances p.shape → voted_in i (votes_by p j) ≡ vote (instance_of p i) j
unfolding votes_by
voted_own p j i lt = get_or-map-range_with_len (λ i. vote (instance_of p i) j) 0 (instances p.shape) i i false lt (omega arith)
