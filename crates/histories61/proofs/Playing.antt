-- A receiver that hears what is heard in a play goes through the play's stages.
use Rattle.std.proofs.Common.{◌≡◌, ℕ, zero, suc, ◌+◌, ◌-◌, ◌*◌, ◌<◌, ◌≤◌, Bool, true, false, ◌&&◌, not, eqb, List, [], map, get_or, refl, sym, ap, ap₂, ◌∙◌, arith}
use Rattle.std.proofs.lemmas.Bool.{cond-true, eqb-true, and_from, ne_eqb, eq-eqb}
use Rattle.std.proofs.lemmas.List.FromFn.{get_or-map-range_with_len}
use Rattle.algebra61.specs.Field.{Fp, Prime}
use Rattle.sharing61.specs.Rules.{Pair}
use Rattle.sharing61.specs.Instance.{held, vote, accepted, kept}
use Rattle.sizes.specs.Instances.{dealer_of, lane_of, instance_at}
use Rattle.talk.specs.declared.messages.Post.{Post}
use Rattle.talk.specs.declared.messages.Post.TheVariants.{Quiet}
use Rattle.talk.specs.declared.messages.Ring.{Ring}
use Rattle.talk.specs.declared.messages.Ring.TheVariants.{Nothing}
use Rattle.talk.specs.declared.messages.Heard.{Heard}
use Rattle.talk.specs.declared.messages.Complaint.{Complaint}
use Rattle.talk.specs.Shape.{Shape, Lawful, instances, seats, within, deals, receives}
use Rattle.plays.specs.Play.{Play, instance_of, seat_of}
use Rattle.plays.specs.Said.{points_up_to, dealt_by, crossed_by, complaints_by, votes_by, dealt_heard, crossed_heard, complaints_heard, reveals_heard, votes_heard}
use Rattle.plays.specs.Seat.{post_at, ring_at, holds, says_yes, keeps, heard_accepted}
use Rattle.plays.specs.Law.{HonestIn}
use Rattle.plays.specs.Heard.{post_heard, ring_heard, play_heard}
use Rattle.plays.specs.Stage.{Stage, AtReady, AtDealt, AtCrossed, AtRevealed, AtDone, received, kept_of_round, stage_after, receiver_at}
use Rattle.plays.proofs.Proper.{dealers_seated}
use Rattle.plays.proofs.Shapes.{within_from}
use Rattle.plays.proofs.Bridge.{says_yes_is}
use Rattle.plays.proofs.Ends.{AllDeal, holds_is, heard_shown_is, heard_accepted_is, keeps_is, place_is, lane_below}
use Rattle.plays.proofs.Steps.{pairs_of, pair_at-pairs_of, complains_is}
use Rattle.histories61.specs.Playing.{stage_after_rounds, OwnGrids, stage_in_play, HeardToItsEnd}
use Rattle.histories61.proofs.Lists.{map_same, unless_same}

-- ---- seats
receiver_is : (s : Shape) (j : ℕ) → receiver_at s (seat_of s j) ≡ j
receiver_is s j = omega arith

receives_there : (s : Shape) (j : ℕ) → 1 ≤ j → j ≤ s.receivers → receives s (seat_of s j) ≡ true
receives_there s j a b = within_from (s.shift + 1) (seat_of s j) (seats s) (omega (arith, a)) (omega (arith, b))

deals_there : (s : Shape) (k : ℕ) → 1 ≤ k → k ≤ s.dealers → deals s k ≡ true
deals_there s k a b = within_from 1 k s.dealers a b

post_there : (p : Play) (round seat : ℕ) → 1 ≤ seat → seat ≤ seats p.shape → post_at (map (post_heard p round) (points_up_to (seats p.shape))) seat ≡ post_heard p round seat
post_there p round seat a b = get_or-map-range_with_len (post_heard p round) 1 (seats p.shape) (seat - 1) seat Quiet (omega (arith, a, b)) (omega (arith, a))

ring_there : (p : Play) (round seat to : ℕ) → 1 ≤ seat → seat ≤ seats p.shape → ring_at (map (λ k. ring_heard p round k to) (points_up_to (seats p.shape))) seat ≡ ring_heard p round seat to
ring_there p round seat to a b = get_or-map-range_with_len (λ k. ring_heard p round k to) 1 (seats p.shape) (seat - 1) seat Nothing (omega (arith, a, b)) (omega (arith, a))

-- ---- what is heard, by receivers and dealers
third_heard : (p : Play) (j : ℕ) → 1 ≤ j → j ≤ p.shape.receivers → post_at (map (post_heard p 3) (points_up_to (seats p.shape))) (seat_of p.shape j) ≡ complaints_heard p j
third_heard p j a b =
    post_there p 3 (seat_of p.shape j) (omega (arith, a)) (omega (arith, b))
    ∙ unless_same (p.down (seat_of p.shape j)) _ _ _ (λ up. cond-true (receives p.shape (seat_of p.shape j)) _ _ (receives_there p.shape j a b) ∙ ap (complaints_by p) (receiver_is p.shape j))

fourth_heard : (p : Play) (k : ℕ) → Lawful p.shape → 1 ≤ k → k ≤ p.shape.dealers → post_at (map (post_heard p 4) (points_up_to (seats p.shape))) k ≡ reveals_heard p k
fourth_heard p k lw a b =
    post_there p 4 k a (omega (arith, b, dealers_seated p.shape lw)) ∙ unless_same (p.down k) _ _ _ (λ up. cond-true (deals p.shape k) _ _ (deals_there p.shape k a b))

fifth_heard : (p : Play) (j : ℕ) → 1 ≤ j → j ≤ p.shape.receivers → post_at (map (post_heard p 5) (points_up_to (seats p.shape))) (seat_of p.shape j) ≡ votes_heard p j
fifth_heard p j a b =
    post_there p 5 (seat_of p.shape j) (omega (arith, a)) (omega (arith, b))
    ∙ unless_same (p.down (seat_of p.shape j)) _ _ _ (λ up. cond-true (receives p.shape (seat_of p.shape j)) _ _ (receives_there p.shape j a b) ∙ ap (votes_by p) (receiver_is p.shape j))

first_heard : (p : Play) (k j : ℕ) → Lawful p.shape → 1 ≤ k → k ≤ p.shape.dealers → 1 ≤ j → j ≤ p.shape.receivers → eqb k (seat_of p.shape j) ≡ false →
    ring_at (map (λ seat. ring_heard p 1 seat (seat_of p.shape j)) (points_up_to (seats p.shape))) k ≡ dealt_heard p k j
first_heard p k j lw k1 kn j1 jn other =
    ring_there p 1 k (seat_of p.shape j) k1 (omega (arith, kn, dealers_seated p.shape lw))
    ∙ unless_same (p.down k) _ _ _
    (λ up. cond-true (deals p.shape k && (receives p.shape (seat_of p.shape j) && not (eqb k (seat_of p.shape j)))) _ _
    (and_from (deals p.shape k) _ (deals_there p.shape k k1 kn) (and_from (receives p.shape (seat_of p.shape j)) _ (receives_there p.shape j j1 jn) (ap not other)))
    ∙ ap (dealt_by p k) (receiver_is p.shape j))

true_false : true ≡ false → ⊥
true_false e = cc

apart_seats : (s : Shape) (k j : ℕ) → eqb k j ≡ false → eqb (seat_of s k) (seat_of s j) ≡ false
apart_seats s k j e = ne_eqb (seat_of s k) (seat_of s j) (λ same. let h : k ≡ j = omega (arith, same) in true_false (sym (eq-eqb k j h) ∙ e))

second_heard : (p : Play) (k j : ℕ) → 1 ≤ k → k ≤ p.shape.receivers → 1 ≤ j → j ≤ p.shape.receivers → eqb k j ≡ false →
    ring_at (map (λ seat. ring_heard p 2 seat (seat_of p.shape j)) (points_up_to (seats p.shape))) (seat_of p.shape k) ≡ crossed_heard p k j
second_heard p k j k1 kn j1 jn other =
    ring_there p 2 (seat_of p.shape k) (seat_of p.shape j) (omega (arith, k1)) (omega (arith, kn))
    ∙ unless_same (p.down (seat_of p.shape k)) _ _ _
    (λ up. cond-true (receives p.shape (seat_of p.shape k) && (receives p.shape (seat_of p.shape j) && not (eqb (seat_of p.shape k) (seat_of p.shape j)))) _ _
    (and_from (receives p.shape (seat_of p.shape k)) _ (receives_there p.shape k k1 kn)
    (and_from (receives p.shape (seat_of p.shape j)) _ (receives_there p.shape j j1 jn) (ap not (apart_seats p.shape k j other))))
    ∙ ap₂ (crossed_by p) (receiver_is p.shape k) (receiver_is p.shape j))

-- ---- round by round
module _ (p : Play) (j : ℕ) (own : List (List (List Fp))) (lw : Lawful p.shape) (al : AllDeal p) (s : HonestIn p j) (og : OwnGrids p j own) where
  small : p.shape.degree + 1 < Prime
  small = omega (arith, lw.degree, lw.third, lw.receivers.1)

  mine : (i : ℕ) → i < instances p.shape → eqb (dealer_of i) (seat_of p.shape j) ≡ true → (p.down (dealer_of i) ≡ false) × (get_or own (lane_of i) [] ≡ p.grid i)
  mine i lt e =
      let same : dealer_of i ≡ seat_of p.shape j = eqb-true (dealer_of i) (seat_of p.shape j) e in
      let most : dealer_of i ≤ p.shape.dealers = omega (arith, lt) in (
        ap p.down same ∙ s.up,
        og (lane_of i) (lane_below i) (omega (arith, same, most)) ∙ ap (λ k. p.grid (instance_at k (lane_of i))) (sym same) ∙ ap p.grid (place_is i),
      )

  received_is : received p.shape j ≡ instances p.shape
  received_is = cond-true (within 1 j p.shape.receivers) (instances p.shape) 0 (within_from 1 j p.shape.receivers s.from s.to)

  after_is : (h : Heard) (stage : Stage) → stage_after p.shape j own h stage ≡ kept_of_round (instances p.shape) p.shape j own h stage
  after_is h stage = ap (λ n. kept_of_round n p.shape j own h stage) received_is

  round_1 : stage_after_rounds p j own 1 ≡ stage_in_play p j 1
  round_1 =
      let rings : List Ring = (play_heard p 1 (seat_of p.shape j)).rings in
      after_is (play_heard p 1 (seat_of p.shape j)) AtReady
      ∙ ap AtDealt
      (map_same (holds p.shape j own rings) (λ i. held (instance_of p i) j) (instances p.shape) 0
      (λ i i0 im. holds_is p own rings i j small al (mine i (omega (arith, im)))
      (λ e. first_heard p (dealer_of i) j lw (omega arith) (omega (arith, im)) s.from s.to e)))

  round_2 : stage_after_rounds p j own 2 ≡ stage_in_play p j 2
  round_2 =
      let rings : List Ring = (play_heard p 2 (seat_of p.shape j)).rings in
      ap (stage_after p.shape j own (play_heard p 2 (seat_of p.shape j))) round_1
      ∙ after_is (play_heard p 2 (seat_of p.shape j)) (stage_in_play p j 1)
      ∙ ap (λ (cs : List Complaint). AtCrossed (pairs_of p j) cs) (complains_is p rings j s.up (λ k k1 kn ne. second_heard p k j k1 kn s.from s.to ne))

  round_3 : stage_after_rounds p j own 3 ≡ stage_in_play p j 3
  round_3 = ap (stage_after p.shape j own (play_heard p 3 (seat_of p.shape j))) round_2

  votes_are : (i : ℕ) → i < instances p.shape →
      says_yes p.shape j (pairs_of p j) (map (post_heard p 3) (points_up_to (seats p.shape))) (map (post_heard p 4) (points_up_to (seats p.shape))) i ≡ vote (instance_of p i) j
  votes_are i lt =
      says_yes_is p (map (post_heard p 3) (points_up_to (seats p.shape))) (map (post_heard p 4) (points_up_to (seats p.shape))) (pairs_of p j) i j lt s.from s.to s.up
      (λ k a b. third_heard p k a b)
      (λ k a b. heard_shown_is p (map (post_heard p 4) (points_up_to (seats p.shape))) i k small al a b (fourth_heard p (dealer_of i) lw (omega arith) (omega (arith, lt))))
      (pair_at-pairs_of p j i lt)

  round_4 : stage_after_rounds p j own 4 ≡ stage_in_play p j 4
  round_4 =
      ap (stage_after p.shape j own (play_heard p 4 (seat_of p.shape j))) round_3
      ∙ after_is (play_heard p 4 (seat_of p.shape j)) (stage_in_play p j 3)
      ∙ ap (λ (vs : List Bool). AtRevealed (pairs_of p j) (map (post_heard p 4) (points_up_to (seats p.shape))) vs)
      (map_same _ (λ i. vote (instance_of p i) j) (instances p.shape) 0 (λ i i0 im. votes_are i (omega (arith, im))))

  round_5 : stage_after_rounds p j own 5 ≡ stage_in_play p j 5
  round_5 =
      let fourth : List Post = map (post_heard p 4) (points_up_to (seats p.shape)) in
      let fifth : List Post = map (post_heard p 5) (points_up_to (seats p.shape)) in
      let acc : (i : ℕ) → i < instances p.shape → heard_accepted p.shape fifth i ≡ accepted (instance_of p i) = λ i lt. heard_accepted_is p fifth i lt (λ k a b. fifth_heard p k a b) in
      ap (stage_after p.shape j own (play_heard p 5 (seat_of p.shape j))) round_4
      ∙ after_is (play_heard p 5 (seat_of p.shape j)) (stage_in_play p j 4)
      ∙ ap₂ (λ (ks : List Pair) (as_ : List Bool). AtDone ks as_)
      (map_same (keeps p.shape j (pairs_of p j) fourth fifth) (λ i. kept (instance_of p i) j) (instances p.shape) 0
      (λ i i0 im. keeps_is p (pairs_of p j) fourth fifth i j (acc i (omega (arith, im)))
      (heard_shown_is p fourth i j small al s.from s.to (fourth_heard p (dealer_of i) lw (omega arith) (omega (arith, im)))) (pair_at-pairs_of p j i (omega (arith, im)))))
      (map_same (heard_accepted p.shape fifth) (λ i. accepted (instance_of p i)) (instances p.shape) 0 (λ i i0 im. acc i (omega (arith, im))))

pub heard_to_its_end : HeardToItsEnd
heard_to_its_end p j own lw al s og zero le = refl
heard_to_its_end p j own lw al s og (suc zero) le = round_1 p j own lw al s og
heard_to_its_end p j own lw al s og (suc (suc zero)) le = round_2 p j own lw al s og
heard_to_its_end p j own lw al s og (suc (suc (suc zero))) le = round_3 p j own lw al s og
heard_to_its_end p j own lw al s og (suc (suc (suc (suc zero)))) le = round_4 p j own lw al s og
heard_to_its_end p j own lw al s og (suc (suc (suc (suc (suc zero))))) le = round_5 p j own lw al s og
heard_to_its_end p j own lw al s og (suc (suc (suc (suc (suc (suc n)))))) le = absurd (omega (arith, le))
