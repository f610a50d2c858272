-- The second round: the crossing pairs that were heard are the play's, and so are the complaints.
use Rattle.std.proofs.Common.{◌≡◌, ℕ, zero, suc, ◌+◌, ◌<◌, ◌≤◌, Bool, true, false, cond, eqb, List, ◌++◌, map, Option, Some, refl, sym, ap, ap₂, ◌∙◌, arith}
use Rattle.std.specs.List.{flat_map, range_with_len}
use Rattle.std.proofs.lemmas.Bool.{cond-true, cond-false, eqb-true}
use Rattle.std.proofs.lemmas.List.FromFn.{get_or-map-range_with_len}
use Rattle.sharing61.specs.Rules.{Pair, zero_pair, at_point, complaint_of}
use Rattle.sharing61.specs.declared.Crossing.{Crossing}
use Rattle.sharing61.specs.Instance.{held, complaint, crossing_pair}
use Rattle.sharing61.proofs.Own.{complaint_up}
use Rattle.talk.specs.declared.messages.Ring.{Ring}
use Rattle.talk.specs.Shape.{instances}
use Rattle.plays.specs.Read.{crossed_in}
use Rattle.plays.specs.Play.{Play, instance_of, seat_of}
use Rattle.plays.specs.Said.{places, complaint_item, complaint_row, complaint_list, crossed_by, crossed_heard, unless_down}
use Rattle.plays.specs.Seat.{ring_at, pair_at, complains}
use Rattle.plays.proofs.Bridge.{crossed_own}

-- lists made place by place are equal where their items are
pub flat_same : {A : Type 0} (f g : ℕ → List A) (n a : ℕ) → ((k : ℕ) → a ≤ k → k < a + n → f k ≡ g k) → flat_map f (range_with_len a n) ≡ flat_map g (range_with_len a n)
flat_same f g zero a h = refl
flat_same f g (suc n) a h = ap₂ (λ xs ys. xs ++ ys) (h a (omega arith) (omega arith)) (flat_same f g n (a + 1) (λ k l m. h k (omega arith) (omega arith)))

pub complaint_list_same : (m n : ℕ) (o q : ℕ → ℕ → Option Crossing) → ((i k : ℕ) → i < m → 1 ≤ k → k ≤ n → o i k ≡ q i k) → complaint_list m n o ≡ complaint_list m n q
complaint_list_same m n o q h =
    flat_same (λ i. complaint_row i n (o i)) (λ i. complaint_row i n (q i)) m 0
    (λ i a b. flat_same (λ k. complaint_item i k (o i k)) (λ k. complaint_item i k (q i k)) n 1
    (λ k l r. ap (complaint_item i k) (h i k (omega arith) l (omega arith))))

-- the pairs that a play defines for receiver j
abbrev pub pairs_of : Play → ℕ → List Pair
pairs_of p j = map (λ i. held (instance_of p i) j) (places (instances p.shape))

pub pair_at-pairs_of : (p : Play) (j i : ℕ) → i < instances p.shape → pair_at (pairs_of p j) i ≡ held (instance_of p i) j
pair_at-pairs_of p j i lt = get_or-map-range_with_len (λ i. held (instance_of p i) j) 0 (instances p.shape) i i zero_pair lt (omega arith)

-- the crossing pair that was heard is the play's
crossing_cases : (p : Play) (k j i : ℕ) (b : Bool) → (instance_of p i).down k ≡ b → i < instances p.shape →
    crossed_in i (unless_down b (p.ring 2 (seat_of p.shape k) (seat_of p.shape j)) (crossed_by p k j)) ≡ crossing_pair (instance_of p i) k j
unfolding crossing_pair instance_of
crossing_cases p k j i true e lt = sym (cond-true (p.down (seat_of p.shape k)) _ _ e)
crossing_cases p k j i false e lt = crossed_own p k j i lt ∙ sym (cond-false (p.down (seat_of p.shape k)) _ _ e)

crossing_is : (p : Play) (k j i : ℕ) → i < instances p.shape → crossed_in i (crossed_heard p k j) ≡ crossing_pair (instance_of p i) k j
unfolding instance_of
crossing_is p k j i lt = crossing_cases p k j i (p.down (seat_of p.shape k)) refl lt

crossing_own : (p : Play) (j i : ℕ) → p.down (seat_of p.shape j) ≡ false → crossing_pair (instance_of p i) j j ≡ Some (at_point (held (instance_of p i) j) j)
unfolding crossing_pair instance_of
crossing_own p j i up = cond-false (p.down (seat_of p.shape j)) _ _ up

up_in : (p : Play) (i j : ℕ) → p.down (seat_of p.shape j) ≡ false → (instance_of p i).down j ≡ false
unfolding instance_of
up_in p i j up = up

cross_cases : (p : Play) (rings : List Ring) (j i k : ℕ) (b : Bool) → eqb k j ≡ b → i < instances p.shape → 1 ≤ k → k ≤ p.shape.receivers → p.down (seat_of p.shape j) ≡ false →
    (eqb k j ≡ false → ring_at rings (seat_of p.shape k) ≡ crossed_heard p k j) →
    cond b (Some (at_point (pair_at (pairs_of p j) i) j)) (crossed_in i (ring_at rings (seat_of p.shape k))) ≡ crossing_pair (instance_of p i) k j
cross_cases p rings j i k true e lt k1 kn up h =
    ap (λ q. Some (at_point q j)) (pair_at-pairs_of p j i lt) ∙ sym (crossing_own p j i up) ∙ ap (λ l. crossing_pair (instance_of p i) l j) (sym (eqb-true k j e))
cross_cases p rings j i k false e lt k1 kn up h = ap (crossed_in i) (h e) ∙ crossing_is p k j i lt

-- after the second round a receiver has the play's complaints
pub complains_is : (p : Play) (rings : List Ring) (j : ℕ) → p.down (seat_of p.shape j) ≡ false →
    ((k : ℕ) → 1 ≤ k → k ≤ p.shape.receivers → eqb k j ≡ false → ring_at rings (seat_of p.shape k) ≡ crossed_heard p k j) →
    complaint_list (instances p.shape) p.shape.receivers (complains p.shape j (pairs_of p j) rings) ≡ complaint_list (instances p.shape) p.shape.receivers (λ i. complaint (instance_of p i) j)
complains_is p rings j up h =
    complaint_list_same (instances p.shape) p.shape.receivers _ (λ i. complaint (instance_of p i) j)
    (λ i k lt k1 kn.
    ap₂ complaint_of (ap (λ q. at_point q k) (pair_at-pairs_of p j i lt)) (cross_cases p rings j i k (eqb k j) refl lt k1 kn up (h k k1 kn))
    ∙ sym (complaint_up (instance_of p i) j k (up_in p i j up)))
