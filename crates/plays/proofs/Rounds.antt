-- A run in which the honest seats go by the rules is its play: round by round.
use Rattle.std.proofs.Common.{◌≡◌, ℕ, zero, suc, ◌+◌, ◌-◌, ◌*◌, ◌<◌, ◌≤◌, Bool, true, false, ◌&&◌, not, cond, eqb, List, [], ◌∷◌, length, map, Option, refl, sym, ap, ap₂, ◌∙◌, subst, arith, get_or}
use Rattle.std.specs.List.{flat_map, range_with_len}
use Rattle.std.proofs.lemmas.Bool.{cond-true, eqb-true, eq-eqb, ne_eqb, and_from}
use Rattle.algebra61.specs.Field.{Fp, Prime}
use Rattle.sharing61.specs.Rules.{Pair, pair_on, at_point, reveal_of, off_grid, shown_if}
use Rattle.sharing61.specs.declared.Crossing.{Crossing}
use Rattle.sharing61.specs.Count.{anyone}
use Rattle.sharing61.proofs.Count.{anyone_same}
use Rattle.sharing61.proofs.Own.{shown_own}
use Rattle.sharing61.specs.Instance.{held, shown, complaint, vote, accepted, kept}
use Rattle.sharing61.specs.Agreement.{Deals}
use Rattle.talk.specs.declared.messages.Complaint.{Complaint}
use Rattle.talk.specs.declared.messages.Post.{Post}
use Rattle.talk.specs.declared.messages.Post.TheVariants.{Quiet, Reveals}
use Rattle.talk.specs.declared.messages.Ring.{Ring}
use Rattle.talk.specs.declared.messages.Ring.TheVariants.{Nothing, Dealt, Cross}
use Rattle.talk.specs.declared.messages.Say.{Say}
use Rattle.talk.specs.declared.messages.Say.TheVariants.{Pass}
use Rattle.talk.specs.Shape.{Shape, Lawful, instances, seats, within, deals, receives}
use Rattle.sizes.specs.Instances.{dealer_of, lane_of, instance_at}
use Rattle.talk.specs.Read.{post_ok, ring_ok, as_read, ring_as_read}
use Rattle.talk.specs.Sync.{posts_heard, rings_heard, has, post_in, ring_in}
use Rattle.talk.proofs.Entries.{post_entry, ring_entry}
use Rattle.plays.specs.Play.{Play, instance_of, dealer_if, seat_of}
use Rattle.plays.specs.Said.{pair_list, crossing_values, reveal_item, points_up_to, dealt_list, cross_list, complaint_list, reveal_list, vote_list, dealt_by, crossed_by, complaints_by, reveals_by, votes_by, unless_down}
use Rattle.plays.specs.Seat.{post_at, ring_at, pair_at, holds, complains, heard_shown, reveals, says_yes, heard_accepted, keeps}
use Rattle.plays.specs.Law.{HonestIn}
use Rattle.plays.specs.Stage.{Stage, AtReady, AtDealt, AtCrossed, AtComplained, AtRevealed, AtDone, received, kept_of_round, stage_after, stage_post, stage_ring, receiver_at}
use Rattle.plays.specs.Transcript.{Transcript, HonestSeat, posts_in, rings_in, heard_in}
use Rattle.plays.specs.Run.{play_of, stage_in, ByTheRules, RunIsPlay, RunMakesPlay}
use Rattle.plays.proofs.Bridge.{heard_complaint_is, says_yes_is}
use Rattle.plays.proofs.Ends.{AllDeal, held_mine, holds_is, heard_shown_is, heard_accepted_is, keeps_is}
use Rattle.plays.proofs.Shapes.{within_from, complaints_shape, reveals_shape, length-dealt, length-cross, length-votes}
use Rattle.plays.proofs.Proper.{dealer_is, dealers_seated, short_dealt, short_revealed}
use Rattle.plays.proofs.Steps.{pairs_of, pair_at-pairs_of, complains_is, flat_same}

-- ---- what is heard of a seat
pub heard_post : (t : Transcript) (round seat : ℕ) → 1 ≤ seat → seat ≤ length (t.words round) →
    post_at (posts_in t round) seat ≡ cond (has (t.mask round) seat) (as_read t.shape round seat (post_in (get_or (t.words round) (seat - 1) Pass))) Quiet
heard_post t round seat from to =
    let e : 1 + (seat - 1) ≡ seat = omega arith in
    post_entry t.shape round (t.mask round) 1 (t.words round) (seat - 1) (omega (arith, from, to))
    ∙ ap (λ k. cond (has (t.mask round) k) (as_read t.shape round k (post_in (get_or (t.words round) (seat - 1) Pass))) Quiet) e

pub heard_ring : (t : Transcript) (round seat to : ℕ) → 1 ≤ seat → seat ≤ length (t.words round) →
    ring_at (rings_in t round to) seat ≡ cond (has (t.mask round) seat) (ring_as_read t.shape round seat to (ring_in to (get_or (t.words round) (seat - 1) Pass))) Nothing
heard_ring t round seat to from last =
    let e : 1 + (seat - 1) ≡ seat = omega arith in
    ring_entry t.shape round (t.mask round) to 1 (t.words round) (seat - 1) (omega (arith, from, last))
    ∙ ap (λ k. cond (has (t.mask round) k) (ring_as_read t.shape round k to (ring_in to (get_or (t.words round) (seat - 1) Pass))) Nothing) e

pub post_as_said : (s : Shape) (round seat : ℕ) (here : Bool) (said p : Post) → here ≡ true → said ≡ p → post_ok s round seat p ≡ true → cond here (as_read s round seat said) Quiet ≡ p
post_as_said s round seat here said p eh es ok =
    cond-true here _ _ eh ∙ ap (as_read s round seat) es ∙ cond-true (post_ok s round seat p) _ _ ok

pub ring_as_said : (s : Shape) (round seat to : ℕ) (here : Bool) (said r : Ring) → here ≡ true → said ≡ r → ring_ok s round seat to r ≡ true → cond here (ring_as_read s round seat to said) Nothing ≡ r
ring_as_said s round seat to here said r eh es ok =
    cond-true here _ _ eh ∙ ap (ring_as_read s round seat to) es ∙ cond-true (ring_ok s round seat to r) _ _ ok

-- ---- the setting
small_degree : (s : Shape) → Lawful s → s.degree + 1 < Prime
small_degree s law = omega (arith, law.degree, law.third, law.receivers.1)

pub receives_from : (s : Shape) (j : ℕ) → 1 ≤ j → j ≤ s.receivers → receives s (seat_of s j) ≡ true
receives_from s j from to = within_from (s.shift + 1) (seat_of s j) (seats s) (omega arith) (omega arith)

pub receiver_is : (s : Shape) (j : ℕ) → receiver_at s (seat_of s j) ≡ j
receiver_is s j = omega arith

-- a receiver receives all instances
pub received_all : (s : Shape) (seat j : ℕ) → receiver_at s seat ≡ j → 1 ≤ j → j ≤ s.receivers → received s (receiver_at s seat) ≡ instances s
received_all s seat j e from to =
    ap (received s) e ∙ cond-true (within 1 j s.receivers) (instances s) 0 (within_from 1 j s.receivers from to)

-- so what its seat keeps is of all instances
after_all : (t : Transcript) (own : List (List (List Fp))) (round j : ℕ) (stage : Stage) → 1 ≤ j → j ≤ t.shape.receivers →
    stage_after t.shape (receiver_at t.shape (seat_of t.shape j)) own (heard_in t round (seat_of t.shape j)) stage
    ≡ kept_of_round (instances t.shape) t.shape (receiver_at t.shape (seat_of t.shape j)) own (heard_in t round (seat_of t.shape j)) stage
after_all t own round j stage from to =
    ap (λ n. kept_of_round n t.shape (receiver_at t.shape (seat_of t.shape j)) own (heard_in t round (seat_of t.shape j)) stage)
    (received_all t.shape (seat_of t.shape j) j (receiver_is t.shape j) from to)

three_parts : (a b c : Bool) → a ≡ true → b ≡ true → c ≡ false → (a && (b && not c)) ≡ true
three_parts a b c ea eb ec = and_from a (b && not c) ea (and_from b (not c) eb (ap not ec))

map_same : {B : Type 0} (f g : ℕ → B) (n a : ℕ) → ((k : ℕ) → a ≤ k → k < a + n → f k ≡ g k) → map f (range_with_len a n) ≡ map g (range_with_len a n)
map_same f g zero a h = refl
map_same f g (suc n) a h = ap₂ (λ x xs. x ∷ xs) (h a (omega arith) (omega arith)) (map_same f g n (a + 1) (λ k l m. h k (omega arith) (omega arith)))

pub receiver_seat : (t : Transcript) (down : ℕ → Bool) (own : ℕ → List (List (List Fp))) (j : ℕ) → HonestIn (play_of t down own) j → HonestSeat t.shape down (seat_of t.shape j)
receiver_seat t down own j s = record { from = omega (arith, s.from); to = omega (arith, s.to); up = s.up }

dealer_seat : (t : Transcript) (down : ℕ → Bool) (k : ℕ) → Lawful t.shape → 1 ≤ k → k ≤ t.shape.dealers → down k ≡ false → HonestSeat t.shape down k
dealer_seat t down k law from to up = record { from = from; to = omega (arith, to, dealers_seated t.shape law); up = up }

-- ---- the dealers deal as the laws ask
cond_ok : (s : Shape) (round seat : ℕ) (p : Post) (b : Bool) → post_ok s round seat p ≡ b → post_ok s round seat (cond b p Quiet) ≡ true
cond_ok s round seat p true e = e
cond_ok s round seat p false e = refl

ring_cond_ok : (s : Shape) (round seat to : ℕ) (r : Ring) (b : Bool) → ring_ok s round seat to r ≡ b → ring_ok s round seat to (cond b r Nothing) ≡ true
ring_cond_ok s round seat to r true e = e
ring_cond_ok s round seat to r false e = refl

read_ok : (s : Shape) (round seat : ℕ) (here : Bool) (p : Post) → post_ok s round seat (cond here (as_read s round seat p) Quiet) ≡ true
read_ok s round seat true p = cond_ok s round seat p (post_ok s round seat p) refl
read_ok s round seat false p = refl

pub heard_ok : (s : Shape) (round mask seat : ℕ) (ws : List Say) (k : ℕ) → post_ok s round (seat + k) (get_or (posts_heard s round mask seat ws) k Quiet) ≡ true
heard_ok s round mask seat [] k = refl
heard_ok s round mask seat (w ∷ ws) zero =
    let e : seat ≡ seat + 0 = omega arith in
    subst (λ n. post_ok s round n (cond (has mask seat) (as_read s round seat (post_in w)) Quiet) ≡ true) e (read_ok s round seat (has mask seat) (post_in w))
heard_ok s round mask seat (w ∷ ws) (suc k) =
    let e : (seat + 1) + k ≡ seat + suc k = omega arith in
    subst (λ n. post_ok s round n (get_or (posts_heard s round mask (seat + 1) ws) k Quiet) ≡ true) e (heard_ok s round mask (seat + 1) ws k)

ring_read_ok : (s : Shape) (round seat to : ℕ) (here : Bool) (r : Ring) → ring_ok s round seat to (cond here (ring_as_read s round seat to r) Nothing) ≡ true
ring_read_ok s round seat to true r = ring_cond_ok s round seat to r (ring_ok s round seat to r) refl
ring_read_ok s round seat to false r = refl

ring_heard_ok : (s : Shape) (round mask to seat : ℕ) (ws : List Say) (k : ℕ) → ring_ok s round (seat + k) to (get_or (rings_heard s round mask to seat ws) k Nothing) ≡ true
ring_heard_ok s round mask to seat [] k = refl
ring_heard_ok s round mask to seat (w ∷ ws) zero =
    let e : seat ≡ seat + 0 = omega arith in
    subst (λ n. ring_ok s round n to (cond (has mask seat) (ring_as_read s round seat to (ring_in to w)) Nothing) ≡ true) e (ring_read_ok s round seat to (has mask seat) (ring_in to w))
ring_heard_ok s round mask to seat (w ∷ ws) (suc k) =
    let e : (seat + 1) + k ≡ seat + suc k = omega arith in
    subst (λ n. ring_ok s round n to (get_or (rings_heard s round mask to (seat + 1) ws) k Nothing) ≡ true) e (ring_heard_ok s round mask to (seat + 1) ws k)

deal_cases : (t : Transcript) (down : ℕ → Bool) (own : ℕ → List (List (List Fp))) → ByTheRules t down own → (i : ℕ) (b : Bool) → down (dealer_of i) ≡ b →
    Deals t.shape.degree (dealer_if b (play_of t down own) i)
deal_cases t down own h i false e = h.degrees (dealer_of i) (lane_of i) e
deal_cases t down own h i true e = (
  λ j. short_dealt t.shape.degree (lane_of i) (ring_at (rings_in t 1 (seat_of t.shape j)) (dealer_of i)),
  λ j p s. short_revealed t.shape (1 + (dealer_of i - 1)) (lane_of i) j (post_at (posts_in t 4) (dealer_of i)) (heard_ok t.shape 4 (t.mask 4) 1 (t.words 4) (dealer_of i - 1)) p s,
)

all_deal : (t : Transcript) (down : ℕ → Bool) (own : ℕ → List (List (List Fp))) → ByTheRules t down own → AllDeal (play_of t down own)
unfolding instance_of
all_deal t down own h i = deal_cases t down own h i (down (dealer_of i)) refl

pub run_makes_play : RunMakesPlay
run_makes_play t down own h = record {
  setting = h.setting;
  degrees = λ i lt up. h.degrees (dealer_of i) (lane_of i) up;
  posts = λ round seat from to gone.
      let e : 1 + (seat - 1) ≡ seat = omega (arith, from) in
      subst (λ n. post_ok t.shape round n (post_at (posts_in t round) seat) ≡ true) e (heard_ok t.shape round (t.mask round) 1 (t.words round) (seat - 1));
  rings = λ round seat to from last gone.
      let e : 1 + (seat - 1) ≡ seat = omega (arith, from) in
      subst (λ n. ring_ok t.shape round n to (ring_at (rings_in t round to) seat) ≡ true) e (ring_heard_ok t.shape round (t.mask round) to 1 (t.words round) (seat - 1));
}

-- ---- the first round
place_below : (i m : ℕ) → i < m * 5 → dealer_of i ≤ m
place_below i m lt = omega (arith, lt)

dealer_there : (k l : ℕ) → 1 ≤ k → l < 5 → dealer_of (instance_at k l) ≡ k
dealer_there k l k1 l5 = omega (arith, k1, l5)

lane_there : (k l : ℕ) → l < 5 → lane_of (instance_at k l) ≡ l
lane_there k l l5 = omega (arith, l5)

grid_there : (own : ℕ → List (List (List Fp))) (k l : ℕ) → 1 ≤ k → l < 5 → get_or (own (dealer_of (instance_at k l))) (lane_of (instance_at k l)) [] ≡ get_or (own k) l []
grid_there own k l k1 l5 = ap₂ (λ n m. get_or (own n) m []) (dealer_there k l k1 l5) (lane_there k l l5)

dealt_same : (d : ℕ) (f g : ℕ → Pair) → ((l : ℕ) → l < 5 → f l ≡ g l) → dealt_list d f ≡ dealt_list d g
dealt_same d f g h = flat_same (λ l. pair_list d (f l)) (λ l. pair_list d (g l)) 5 0 (λ l a b. ap (pair_list d) (h l (omega (arith, b))))

dealt_own : (t : Transcript) (down : ℕ → Bool) (own : ℕ → List (List (List Fp))) → (k j : ℕ) → 1 ≤ k → down k ≡ false →
    Dealt (dealt_list t.shape.degree (λ l. pair_on (get_or (own k) l []) (receiver_at t.shape (seat_of t.shape j)))) ≡ dealt_by (play_of t down own) k j
unfolding dealt_by
dealt_own t down own k j k1 up =
    ap (λ xs. Dealt xs)
    (dealt_same t.shape.degree _ (λ l. held (instance_of (play_of t down own) (instance_at k l)) j)
    (λ l l5.
    ap₂ pair_on (sym (grid_there own k l k1 l5)) (receiver_is t.shape j)
    ∙ sym (held_mine (play_of t down own) (instance_at k l) j (ap down (dealer_there k l k1 l5) ∙ up))))

dealt_ok : (s : Shape) (k j : ℕ) (pair : ℕ → Pair) → 1 ≤ k → k ≤ s.dealers → 1 ≤ j → j ≤ s.receivers → eqb k (seat_of s j) ≡ false → ring_ok s 1 k (seat_of s j) (Dealt (dealt_list s.degree pair)) ≡ true
dealt_ok s k j pair k1 kn j1 jn ne =
    and_from (deals s k) _ (within_from 1 k s.dealers k1 kn)
    (and_from (receives s (seat_of s j)) _ (receives_from s j j1 jn)
    (and_from (not (eqb k (seat_of s j))) _ (ap not ne)
    (eq-eqb (length (dealt_list s.degree pair)) (10 * (s.degree + 1)) (length-dealt s.degree pair))))

pub dealt_said : (t : Transcript) (down : ℕ → Bool) (own : ℕ → List (List (List Fp))) → ByTheRules t down own → (k j : ℕ) → 1 ≤ k → k ≤ t.shape.dealers → 1 ≤ j → j ≤ t.shape.receivers →
    eqb k (seat_of t.shape j) ≡ false → (b : Bool) → down k ≡ b →
    ring_at (rings_in t 1 (seat_of t.shape j)) k ≡ unless_down b (ring_at (rings_in t 1 (seat_of t.shape j)) k) (dealt_by (play_of t down own) k j)
unfolding dealt_by
dealt_said t down own h k j k1 kn j1 jn ne true e = refl
dealt_said t down own h k j k1 kn j1 jn ne false e =
    let hk : HonestSeat t.shape down k = dealer_seat t down k h.setting k1 kn e in
    let zero_five : 0 < 5 = omega arith in
    heard_ring t 1 k (seat_of t.shape j) k1 (omega (arith, hk.to, h.all 0 zero_five))
    ∙ ring_as_said t.shape 1 k (seat_of t.shape j) (has (t.mask 1) k) _ (dealt_by (play_of t down own) k j) (h.in_mask 0 k zero_five hk)
    (h.rings 0 k (seat_of t.shape j) zero_five hk (omega (arith, j1)) (omega (arith, jn))
    ∙ cond-true (deals t.shape k && (receives t.shape (seat_of t.shape j) && not (eqb k (seat_of t.shape j)))) _ _
    (three_parts _ _ _ (within_from 1 k t.shape.dealers k1 kn) (receives_from t.shape j j1 jn) ne)
    ∙ dealt_own t down own k j k1 e)
    (dealt_ok t.shape k j (λ l. held (instance_of (play_of t down own) (instance_at k l)) j) k1 kn j1 jn ne)

pub stage_1 : (t : Transcript) (down : ℕ → Bool) (own : ℕ → List (List (List Fp))) → ByTheRules t down own → (j : ℕ) → HonestIn (play_of t down own) j →
    stage_in t (own (seat_of t.shape j)) (seat_of t.shape j) 1 ≡ AtDealt (pairs_of (play_of t down own) j)
stage_1 t down own h j s =
    let seat : ℕ = seat_of t.shape j in
    let p : Play = play_of t down own in
    after_all t (own seat) 1 j AtReady s.from s.to
    ∙ ap (λ ps. AtDealt ps)
    (map_same _ (λ i. held (instance_of p i) j) (instances t.shape) 0
    (λ i a b.
    ap (λ m. holds t.shape m (own seat) (rings_in t 1 seat) i) (receiver_is t.shape j)
    ∙ holds_is p (own seat) (rings_in t 1 seat) i j (small_degree t.shape h.setting) (all_deal t down own h)
    (λ e. (ap down (eqb-true (dealer_of i) seat e) ∙ s.up, ap (λ k. get_or (own k) (lane_of i) []) (sym (eqb-true (dealer_of i) seat e))))
    (λ e. dealt_said t down own h (dealer_of i) j (omega arith) (place_below i t.shape.dealers (omega (arith, b))) s.from s.to e (down (dealer_of i)) refl)))

-- ---- the second round
true_not_false : (b : Bool) → b ≡ true → b ≡ false → ⊥
true_not_false b e f = let g : true ≡ false = sym e ∙ f in cc

cross_same : (m : ℕ) (f g : ℕ → Crossing) → ((i : ℕ) → i < m → f i ≡ g i) → cross_list m f ≡ cross_list m g
cross_same m f g h = flat_same (λ i. crossing_values (f i)) (λ i. crossing_values (g i)) m 0 (λ i a b. ap crossing_values (h i (omega (arith, b))))

cross_own : (t : Transcript) (down : ℕ → Bool) (own : ℕ → List (List (List Fp))) (k j : ℕ) →
    Cross (cross_list (instances t.shape) (λ i. at_point (pair_at (pairs_of (play_of t down own) k) i) (receiver_at t.shape (seat_of t.shape j)))) ≡ crossed_by (play_of t down own) k j
unfolding crossed_by
cross_own t down own k j =
    let p : Play = play_of t down own in
    ap (λ xs. Cross xs)
    (cross_same (instances t.shape) _ (λ i. at_point (held (instance_of p i) k) j) (λ i lt. ap₂ at_point (pair_at-pairs_of p k i lt) (receiver_is t.shape j)))

cross_ok : (s : Shape) (k j : ℕ) (two : ℕ → Crossing) → 1 ≤ k → k ≤ s.receivers → 1 ≤ j → j ≤ s.receivers → eqb (seat_of s k) (seat_of s j) ≡ false →
    ring_ok s 2 (seat_of s k) (seat_of s j) (Cross (cross_list (instances s) two)) ≡ true
cross_ok s k j two k1 kn j1 jn ne =
    and_from (receives s (seat_of s k)) _ (receives_from s k k1 kn)
    (and_from (receives s (seat_of s j)) _ (receives_from s j j1 jn)
    (and_from (not (eqb (seat_of s k) (seat_of s j))) _ (ap not ne)
    (eq-eqb (length (cross_list (instances s) two)) (2 * instances s) (length-cross (instances s) two))))

seats_apart : (s : Shape) (k j : ℕ) → eqb k j ≡ false → eqb (seat_of s k) (seat_of s j) ≡ false
seats_apart s k j ne = ne_eqb (seat_of s k) (seat_of s j) (λ e. true_not_false (eqb k j) (eq-eqb k j (omega (arith, e))) ne)

pub cross_said : (t : Transcript) (down : ℕ → Bool) (own : ℕ → List (List (List Fp))) → ByTheRules t down own → (k j : ℕ) → 1 ≤ k → k ≤ t.shape.receivers → 1 ≤ j → j ≤ t.shape.receivers →
    eqb k j ≡ false → (b : Bool) → down (seat_of t.shape k) ≡ b →
    ring_at (rings_in t 2 (seat_of t.shape j)) (seat_of t.shape k) ≡ unless_down b (ring_at (rings_in t 2 (seat_of t.shape j)) (seat_of t.shape k)) (crossed_by (play_of t down own) k j)
unfolding crossed_by
cross_said t down own h k j k1 kn j1 jn ne true e = refl
cross_said t down own h k j k1 kn j1 jn ne false e =
    let p : Play = play_of t down own in
    let sk : HonestIn p k = record { from = k1; to = kn; up = e } in
    let a : ℕ = seat_of t.shape k in
    let b : ℕ = seat_of t.shape j in
    let ha : HonestSeat t.shape down a = receiver_seat t down own k sk in
    let one_five : 1 < 5 = omega arith in
    let apart : eqb a b ≡ false = seats_apart t.shape k j ne in
    heard_ring t 2 a b ha.from (omega (arith, ha.to, h.all 1 one_five))
    ∙ ring_as_said t.shape 2 a b (has (t.mask 2) a) _ (crossed_by p k j) (h.in_mask 1 a one_five ha)
    (h.rings 1 a b one_five ha (omega (arith, j1)) (omega (arith, jn))
    ∙ ap (λ st. stage_ring t.shape a (own a) st b) (stage_1 t down own h k sk)
    ∙ cond-true (receives t.shape a && (receives t.shape b && not (eqb a b))) _ _
    (three_parts _ _ _ (receives_from t.shape k k1 kn) (receives_from t.shape j j1 jn) apart)
    ∙ cross_own t down own k j)
    (cross_ok t.shape k j (λ i. at_point (held (instance_of p i) k) j) k1 kn j1 jn apart)

-- the complaints that the play defines for receiver j
abbrev complaints_of : Play → ℕ → List Complaint
complaints_of p j = complaint_list (instances p.shape) p.shape.receivers (λ i. complaint (instance_of p i) j)

pub stage_2 : (t : Transcript) (down : ℕ → Bool) (own : ℕ → List (List (List Fp))) → ByTheRules t down own → (j : ℕ) → HonestIn (play_of t down own) j →
    stage_in t (own (seat_of t.shape j)) (seat_of t.shape j) 2 ≡ AtCrossed (pairs_of (play_of t down own) j) (complaints_of (play_of t down own) j)
stage_2 t down own h j s =
    let seat : ℕ = seat_of t.shape j in
    let p : Play = play_of t down own in
    ap (stage_after t.shape (receiver_at t.shape seat) (own seat) (heard_in t 2 seat)) (stage_1 t down own h j s)
    ∙ after_all t (own seat) 2 j (AtDealt (pairs_of p j)) s.from s.to
    ∙ ap (λ cs. AtCrossed (pairs_of p j) cs)
    (ap (λ m. complaint_list (instances t.shape) t.shape.receivers (complains t.shape m (pairs_of p j) (rings_in t 2 seat))) (receiver_is t.shape j)
    ∙ complains_is p (rings_in t 2 seat) j s.up (λ k k1 kn ne. cross_said t down own h k j k1 kn s.from s.to ne (down (seat_of t.shape k)) refl))

-- ---- the third round
pub complaints_said : (t : Transcript) (down : ℕ → Bool) (own : ℕ → List (List (List Fp))) → ByTheRules t down own → (k : ℕ) → 1 ≤ k → k ≤ t.shape.receivers → (b : Bool) → down (seat_of t.shape k) ≡ b →
    post_at (posts_in t 3) (seat_of t.shape k) ≡ unless_down b (post_at (posts_in t 3) (seat_of t.shape k)) (complaints_by (play_of t down own) k)
unfolding complaints_by
complaints_said t down own h k k1 kn true e = refl
complaints_said t down own h k k1 kn false e =
    let p : Play = play_of t down own in
    let sk : HonestIn p k = record { from = k1; to = kn; up = e } in
    let a : ℕ = seat_of t.shape k in
    let ha : HonestSeat t.shape down a = receiver_seat t down own k sk in
    let two_five : 2 < 5 = omega arith in
    heard_post t 3 a ha.from (omega (arith, ha.to, h.all 2 two_five))
    ∙ post_as_said t.shape 3 a (has (t.mask 3) a) _ (complaints_by p k) (h.in_mask 2 a two_five ha)
    (h.posts 2 a two_five ha
    ∙ ap (stage_post t.shape a (own a)) (stage_2 t down own h k sk)
    ∙ cond-true (receives t.shape a) _ _ (receives_from t.shape k k1 kn))
    (and_from (receives t.shape a) _ (receives_from t.shape k k1 kn) (complaints_shape t.shape (λ i. complaint (instance_of p i) k)))

stage_3 : (t : Transcript) (down : ℕ → Bool) (own : ℕ → List (List (List Fp))) → ByTheRules t down own → (j : ℕ) → HonestIn (play_of t down own) j →
    stage_in t (own (seat_of t.shape j)) (seat_of t.shape j) 3 ≡ AtComplained (pairs_of (play_of t down own) j) (posts_in t 3)
stage_3 t down own h j s =
    let seat : ℕ = seat_of t.shape j in
    ap (stage_after t.shape (receiver_at t.shape seat) (own seat) (heard_in t 3 seat)) (stage_2 t down own h j s)

-- ---- the fourth round
reveal_list_same : (d n : ℕ) (f g : ℕ → ℕ → Option Pair) → ((l j : ℕ) → l < 5 → 1 ≤ j → j ≤ n → f l j ≡ g l j) → reveal_list d n f ≡ reveal_list d n g
reveal_list_same d n f g h =
    flat_same (λ l. flat_map (λ j. reveal_item d l j (f l j)) (points_up_to n)) (λ l. flat_map (λ j. reveal_item d l j (g l j)) (points_up_to n)) 5 0
    (λ l a b. flat_same (λ j. reveal_item d l j (f l j)) (λ j. reveal_item d l j (g l j)) n 1
    (λ j c e. ap (reveal_item d l j) (h l j (omega (arith, b)) c (omega (arith, e)))))

reveal_of_same : (n : ℕ) (f g : List (List Fp)) (c o : ℕ → Option Crossing) (j : ℕ) → f ≡ g → ((k : ℕ) → 1 ≤ k → k ≤ n → c k ≡ o k) → reveal_of n f c j ≡ reveal_of n g o j
reveal_of_same n f g c o j e h =
    ap₂ (λ b q. shown_if b q) (ap (λ m. anyone n (λ k. off_grid m j k (c k))) e ∙ anyone_same n _ (λ k. off_grid g j k (o k)) (λ k a b. ap (off_grid g j k) (h k a b))) (ap (λ m. pair_on m j) e)

receivers_of : (p : Play) (i : ℕ) → (instance_of p i).receivers ≡ p.shape.receivers
unfolding instance_of
receivers_of p i = refl

reveals_is : (t : Transcript) (down : ℕ → Bool) (own : ℕ → List (List (List Fp))) → ByTheRules t down own → (k l j : ℕ) → 1 ≤ k → k ≤ t.shape.dealers → down k ≡ false → l < 5 → 1 ≤ j → j ≤ t.shape.receivers →
    reveals t.shape (own k) (posts_in t 3) k l j ≡ shown (instance_of (play_of t down own) (instance_at k l)) j
reveals_is t down own h k l j k1 kn up l5 j1 jn =
    let p : Play = play_of t down own in
    let i : ℕ = instance_at k l in
    let g : List (List Fp) = get_or (own (dealer_of i)) (lane_of i) [] in
    reveal_of_same t.shape.receivers (get_or (own k) l []) g _ (complaint (instance_of p i) j) j (sym (grid_there own k l k1 l5))
    (λ m m1 mn. heard_complaint_is p (posts_in t 3) i j m (omega (arith, l5, k1, kn)) m1 mn (complaints_said t down own h j j1 jn (down (seat_of t.shape j)) refl))
    ∙ ap (λ n. reveal_of n g (complaint (instance_of p i) j) j) (sym (receivers_of p i))
    ∙ sym (shown_own (instance_of p i) g j (dealer_is p i (ap down (dealer_there k l k1 l5) ∙ up)))

pub reveals_said : (t : Transcript) (down : ℕ → Bool) (own : ℕ → List (List (List Fp))) → ByTheRules t down own → (k : ℕ) → 1 ≤ k → k ≤ t.shape.dealers → (b : Bool) → down k ≡ b →
    post_at (posts_in t 4) k ≡ unless_down b (post_at (posts_in t 4) k) (reveals_by (play_of t down own) k)
unfolding reveals_by
reveals_said t down own h k k1 kn true e = refl
reveals_said t down own h k k1 kn false e =
    let p : Play = play_of t down own in
    let hk : HonestSeat t.shape down k = dealer_seat t down k h.setting k1 kn e in
    let three_five : 3 < 5 = omega arith in
    heard_post t 4 k k1 (omega (arith, hk.to, h.all 3 three_five))
    ∙ post_as_said t.shape 4 k (has (t.mask 4) k) _ (reveals_by p k) (h.in_mask 3 k three_five hk)
    (h.posts 3 k three_five hk
    ∙ cond-true (deals t.shape k) _ _ (within_from 1 k t.shape.dealers k1 kn)
    ∙ ap (λ rs. Reveals rs) (reveal_list_same t.shape.degree t.shape.receivers _ (λ l j. shown (instance_of p (instance_at k l)) j) (λ l j l5 j1 jn. reveals_is t down own h k l j k1 kn e l5 j1 jn)))
    (and_from (deals t.shape k) _ (within_from 1 k t.shape.dealers k1 kn) (reveals_shape t.shape (λ l j. shown (instance_of p (instance_at k l)) j)))

pub shown_heard : (t : Transcript) (down : ℕ → Bool) (own : ℕ → List (List (List Fp))) → ByTheRules t down own → (i j : ℕ) → i < instances t.shape → 1 ≤ j → j ≤ t.shape.receivers →
    heard_shown (posts_in t 4) i j ≡ shown (instance_of (play_of t down own) i) j
shown_heard t down own h i j lt j1 jn =
    heard_shown_is (play_of t down own) (posts_in t 4) i j (small_degree t.shape h.setting) (all_deal t down own h) j1 jn
    (reveals_said t down own h (dealer_of i) (omega arith) (place_below i t.shape.dealers lt) (down (dealer_of i)) refl)

-- the votes that the play defines for receiver j
abbrev votes_of : Play → ℕ → List Bool
votes_of p j = vote_list (instances p.shape) (λ i. vote (instance_of p i) j)

stage_4 : (t : Transcript) (down : ℕ → Bool) (own : ℕ → List (List (List Fp))) → ByTheRules t down own → (j : ℕ) → HonestIn (play_of t down own) j →
    stage_in t (own (seat_of t.shape j)) (seat_of t.shape j) 4 ≡ AtRevealed (pairs_of (play_of t down own) j) (posts_in t 4) (votes_of (play_of t down own) j)
stage_4 t down own h j s =
    let seat : ℕ = seat_of t.shape j in
    let p : Play = play_of t down own in
    ap (stage_after t.shape (receiver_at t.shape seat) (own seat) (heard_in t 4 seat)) (stage_3 t down own h j s)
    ∙ after_all t (own seat) 4 j (AtComplained (pairs_of p j) (posts_in t 3)) s.from s.to
    ∙ ap (λ vs. AtRevealed (pairs_of p j) (posts_in t 4) vs)
    (map_same _ (λ i. vote (instance_of p i) j) (instances t.shape) 0
    (λ i a b.
    ap (λ m. says_yes t.shape m (pairs_of p j) (posts_in t 3) (posts_in t 4) i) (receiver_is t.shape j)
    ∙ says_yes_is p (posts_in t 3) (posts_in t 4) (pairs_of p j) i j (omega (arith, b)) s.from s.to s.up
    (λ k k1 kn. complaints_said t down own h k k1 kn (down (seat_of t.shape k)) refl)
    (λ k k1 kn. shown_heard t down own h i k (omega (arith, b)) k1 kn)
    (pair_at-pairs_of p j i (omega (arith, b)))))

-- ---- the fifth round
pub votes_said : (t : Transcript) (down : ℕ → Bool) (own : ℕ → List (List (List Fp))) → ByTheRules t down own → (k : ℕ) → 1 ≤ k → k ≤ t.shape.receivers → (b : Bool) → down (seat_of t.shape k) ≡ b →
    post_at (posts_in t 5) (seat_of t.shape k) ≡ unless_down b (post_at (posts_in t 5) (seat_of t.shape k)) (votes_by (play_of t down own) k)
unfolding votes_by
votes_said t down own h k k1 kn true e = refl
votes_said t down own h k k1 kn false e =
    let p : Play = play_of t down own in
    let sk : HonestIn p k = record { from = k1; to = kn; up = e } in
    let a : ℕ = seat_of t.shape k in
    let ha : HonestSeat t.shape down a = receiver_seat t down own k sk in
    let four_five : 4 < 5 = omega arith in
    heard_post t 5 a ha.from (omega (arith, ha.to, h.all 4 four_five))
    ∙ post_as_said t.shape 5 a (has (t.mask 5) a) _ (votes_by p k) (h.in_mask 4 a four_five ha)
    (h.posts 4 a four_five ha
    ∙ ap (stage_post t.shape a (own a)) (stage_4 t down own h k sk)
    ∙ cond-true (receives t.shape a) _ _ (receives_from t.shape k k1 kn))
    (and_from (receives t.shape a) _ (receives_from t.shape k k1 kn)
    (eq-eqb (length (votes_of p k)) (instances t.shape) (length-votes (instances t.shape) (λ i. vote (instance_of p i) k))))

accepted_heard : (t : Transcript) (down : ℕ → Bool) (own : ℕ → List (List (List Fp))) → ByTheRules t down own → (i : ℕ) → i < instances t.shape →
    heard_accepted t.shape (posts_in t 5) i ≡ accepted (instance_of (play_of t down own) i)
accepted_heard t down own h i lt =
    heard_accepted_is (play_of t down own) (posts_in t 5) i lt (λ j j1 jn. votes_said t down own h j j1 jn (down (seat_of t.shape j)) refl)

pub run_is_play : RunIsPlay
run_is_play t down own h j s =
    let seat : ℕ = seat_of t.shape j in
    let p : Play = play_of t down own in
    ap (stage_after t.shape (receiver_at t.shape seat) (own seat) (heard_in t 5 seat)) (stage_4 t down own h j s)
    ∙ after_all t (own seat) 5 j (AtRevealed (pairs_of p j) (posts_in t 4) (votes_of p j)) s.from s.to
    ∙ ap₂ (λ ps acc. AtDone ps acc)
    (map_same _ (λ i. kept (instance_of p i) j) (instances t.shape) 0
    (λ i a b.
    ap (λ m. keeps t.shape m (pairs_of p j) (posts_in t 4) (posts_in t 5) i) (receiver_is t.shape j)
    ∙ keeps_is p (pairs_of p j) (posts_in t 4) (posts_in t 5) i j (accepted_heard t down own h i (omega (arith, b)))
    (shown_heard t down own h i j (omega (arith, b)) s.from s.to) (pair_at-pairs_of p j i (omega (arith, b)))))
    (map_same _ (λ i. accepted (instance_of p i)) (instances t.shape) 0 (λ i a b. accepted_heard t down own h i (omega (arith, b))))
