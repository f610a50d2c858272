-- The items of a play: what holds of each, where they are found, and that they ascend.
use Rattle.std.proofs.Common.{◌≡◌, ℕ, ◌<◌, ◌≤◌, Bool, true, false, ◌&&◌, not, eqb, ltb, cond, List, [], ◌∷◌, None, refl, sym, ap, ◌∙◌, arith}
use Rattle.std.specs.List.{list_all, flat_map}
use Rattle.std.proofs.lemmas.Bool.{eq-eqb, ne_eqb, lt-ltb, and_parts, and_from, or_left, or_right, cond-false, not-true}
use Rattle.talk.specs.declared.messages.Post.{Post}
use Rattle.talk.specs.declared.messages.Post.TheVariants.{Quiet, Complaints, Reveals, Votes, Syndromes}
use Rattle.talk.specs.declared.messages.Ring.{Ring}
use Rattle.talk.specs.declared.messages.Ring.TheVariants.{Nothing, Dealt, Cross}
use Rattle.talk.specs.Basics.{first_of}
use Rattle.talk.specs.Shape.{Shape, seats, rounds, within, deals, receives}
use Rattle.talk.specs.Read.{ascends, comes_before, ring_ok}
use Rattle.talk.specs.Sync.{has}
use Rattle.plays.specs.Read.{seek}
use Rattle.plays.specs.Play.{Play}
use Rattle.plays.specs.Said.{points_up_to}
use Rattle.plays.specs.Law.{IsPlay}
use Rattle.plays.proofs.Shapes.{within_from}
use Rattle.playback.specs.declared.phase.SaidItem.{SaidItem}
use Rattle.playback.specs.Recorded.{is_item, quiet_or, nothing_or, said_post, said_ring}
use Rattle.playback.specs.Kept.{is_quiet, is_nothing, item_before, message_ok, item_ok}
use Rattle.hearsay.specs.Said.{Marks, post_item, ring_item, post_items, ring_items, seat_items, round_items, said_in}
use Rattle.hearsay.proofs.Lists.{Every, every_append, every_flat, every_if, every_unless, every_list_all, seek_past, seek_before, seek_at, Sorted, sorted_ascends, sorted_append, sorted_flat}

-- ---- what holds of each
module _ (P : SaidItem → Type 0) where
  every_post : (round seat : ℕ) (post : Post) → (is_quiet post ≡ false → P (post_item round seat post)) → Every P (post_items round seat post)
  every_post round seat post h = every_unless P (is_quiet post) (post_item round seat post ∷ []) (λ e. (h e, tt))

  every_ring : (round seat to : ℕ) (ring : Ring) → (is_nothing ring ≡ false → P (ring_item round seat to ring)) → Every P (ring_items round seat to ring)
  every_ring round seat to ring h = every_unless P (is_nothing ring) (ring_item round seat to ring ∷ []) (λ e. (h e, tt))

  every_sent : (shape : Shape) (round seat : ℕ) (ring : ℕ → Ring) → ((to : ℕ) → 1 ≤ to → to ≤ seats shape → is_nothing (ring to) ≡ false → P (ring_item round seat to (ring to))) →
      Every P (flat_map (λ to. ring_items round seat to (ring to)) (points_up_to (seats shape)))
  every_sent shape round seat ring h =
      every_flat P (λ to. ring_items round seat to (ring to)) (seats shape) 1 (λ to from most. every_ring round seat to (ring to) (h to from (omega (arith, most))))

  every_seat : (shape : Shape) (round seat : ℕ) (post : Post) (ring : ℕ → Ring) → (is_quiet post ≡ false → P (post_item round seat post)) →
      ((to : ℕ) → 1 ≤ to → to ≤ seats shape → is_nothing (ring to) ≡ false → P (ring_item round seat to (ring to))) → Every P (seat_items shape round seat post ring)
  every_seat shape round seat post ring hp hr =
      every_append P (post_items round seat post) (flat_map (λ to. ring_items round seat to (ring to)) (points_up_to (seats shape)))
      (every_post round seat post hp) (every_sent shape round seat ring hr)

  every_round : (shape : Shape) (round : ℕ) (down : ℕ → Bool) (post : ℕ → Post) (ring : ℕ → ℕ → Ring) →
      ((seat : ℕ) → 1 ≤ seat → seat ≤ seats shape → down seat ≡ true → Every P (seat_items shape round seat (post seat) (ring seat))) → Every P (round_items shape round down post ring)
  every_round shape round down post ring h =
      every_flat P (λ seat. cond (down seat) (seat_items shape round seat (post seat) (ring seat)) []) (seats shape) 1
      (λ seat from most. every_if P (down seat) (seat_items shape round seat (post seat) (ring seat)) (h seat from (omega (arith, most))))

-- ---- the test of a look-up
and_false : (b : Bool) → (b && false) ≡ false
and_false true = refl
and_false false = refl

other_round : (j r : ℕ) (rest : Bool) → (j ≡ r → ⊥) → (eqb j r && rest) ≡ false
other_round j r rest ne = ap (λ b. b && rest) (ne_eqb j r ne)

other_seat : (first : Bool) (j s : ℕ) (rest : Bool) → (j ≡ s → ⊥) → (first && (eqb j s && rest)) ≡ false
other_seat first j s rest ne = ap (λ b. first && b) (other_round j s rest ne) ∙ and_false first

other_to : (first second : Bool) (j t : ℕ) → (j ≡ t → ⊥) → (first && (second && eqb j t)) ≡ false
other_to first second j t ne = ap (λ b. first && (second && b)) (ne_eqb j t ne) ∙ ap (λ b. first && b) (and_false second) ∙ and_false first

own_item : (r s t : ℕ) → (eqb r r && (eqb s s && eqb t t)) ≡ true
own_item r s t = and_from (eqb r r) (eqb s s && eqb t t) (eq-eqb r r refl) (and_from (eqb s s) (eqb t t) (eq-eqb s s refl) (eq-eqb t t refl))

-- ---- an item is found, or none where nothing is said
found_post : (r s : ℕ) (post : Post) → quiet_or (seek (is_item r s 0) (λ item. item.post) (post_items r s post)) ≡ post
found_post r s Quiet = refl
found_post r s (Complaints list) = ap (λ (b : Bool). quiet_or (first_of b (Complaints list) None)) (own_item r s 0)
found_post r s (Reveals list) = ap (λ (b : Bool). quiet_or (first_of b (Reveals list) None)) (own_item r s 0)
found_post r s (Votes list) = ap (λ (b : Bool). quiet_or (first_of b (Votes list) None)) (own_item r s 0)
found_post r s (Syndromes list) = ap (λ (b : Bool). quiet_or (first_of b (Syndromes list) None)) (own_item r s 0)

found_ring : (r s t : ℕ) (ring : Ring) → nothing_or (seek (is_item r s t) (λ item. item.ring) (ring_items r s t ring)) ≡ ring
found_ring r s t Nothing = refl
found_ring r s t (Dealt list) = ap (λ (b : Bool). nothing_or (first_of b (Dealt list) None)) (own_item r s t)
found_ring r s t (Cross list) = ap (λ (b : Bool). nothing_or (first_of b (Cross list) None)) (own_item r s t)

module _ (play : Play) (r s : ℕ) (r1 : 1 ≤ r) (rn : r ≤ rounds play.shape) (s1 : 1 ≤ s) (sn : s ≤ seats play.shape) (down : play.down s ≡ true) where
  -- the items of a seat in a round
  found_seat : {B : Type 0} (t : ℕ) (v : SaidItem → B) → seek (is_item r s t) v (said_in play) ≡ seek (is_item r s t) v (seat_items play.shape r s (play.post r s) (play.ring r s))
  found_seat t v =
      seek_at (is_item r s t) v (λ round. round_items play.shape round play.down (play.post round) (play.ring round)) r (rounds play.shape) 1 r1 (omega (arith, rn))
      (λ j ne.
      every_round (λ x. is_item r s t x ≡ false) play.shape j play.down (play.post j) (play.ring j)
      (λ seat a b e.
      every_seat (λ x. is_item r s t x ≡ false) play.shape j seat (play.post j seat) (play.ring j seat)
      (λ said. other_round j r (eqb seat s && eqb 0 t) ne) (λ to a b said. other_round j r (eqb seat s && eqb to t) ne)))
      ∙ seek_at (is_item r s t) v (λ seat. cond (play.down seat) (seat_items play.shape r seat (play.post r seat) (play.ring r seat)) []) s (seats play.shape) 1 s1 (omega (arith, sn))
      (λ j ne.
      every_if (λ x. is_item r s t x ≡ false) (play.down j) (seat_items play.shape r j (play.post r j) (play.ring r j))
      (λ e.
      every_seat (λ x. is_item r s t x ≡ false) play.shape r j (play.post r j) (play.ring r j)
      (λ said. other_seat (eqb r r) j s (eqb 0 t) ne) (λ to a b said. other_seat (eqb r r) j s (eqb to t) ne)))
      ∙ ap (λ (b : Bool). seek (is_item r s t) v (cond b (seat_items play.shape r s (play.post r s) (play.ring r s)) [])) down

  pub said_post_is : said_post (said_in play) r s ≡ play.post r s
  said_post_is =
      ap quiet_or
      (found_seat 0 (λ item. item.post)
      ∙ seek_before (is_item r s 0) (λ (item : SaidItem). item.post) (post_items r s (play.post r s)) (flat_map (λ to. ring_items r s to (play.ring r s to)) (points_up_to (seats play.shape)))
      (every_sent (λ x. is_item r s 0 x ≡ false) play.shape r s (play.ring r s) (λ to from most said. other_to (eqb r r) (eqb s s) to 0 (λ e. omega (arith, e, from)))))
      ∙ found_post r s (play.post r s)

  pub said_ring_is : (t : ℕ) → 1 ≤ t → t ≤ seats play.shape → said_ring (said_in play) r s t ≡ play.ring r s t
  said_ring_is t t1 tn =
      ap nothing_or
      (found_seat t (λ item. item.ring)
      ∙ seek_past (is_item r s t) (λ (item : SaidItem). item.ring) (post_items r s (play.post r s)) (flat_map (λ to. ring_items r s to (play.ring r s to)) (points_up_to (seats play.shape)))
      (every_post (λ x. is_item r s t x ≡ false) r s (play.post r s) (λ said. other_to (eqb r r) (eqb s s) 0 t (λ e. omega (arith, e, t1))))
      ∙ seek_at (is_item r s t) (λ (item : SaidItem). item.ring) (λ to. ring_items r s to (play.ring r s to)) t (seats play.shape) 1 t1 (omega (arith, tn))
      (λ j ne. every_ring (λ x. is_item r s t x ≡ false) r s j (play.ring r s j) (λ said. other_to (eqb r r) (eqb s s) j t ne)))
      ∙ found_ring r s t (play.ring r s t)

-- ---- the items ascend
earlier_round : (x y : SaidItem) → x.round < y.round → item_before x y ≡ true
earlier_round x y lt = or_left (ltb x.round y.round) (eqb x.round y.round && comes_before x.seat x.to y.seat y.to) (lt-ltb x.round y.round lt)

earlier_in_round : (x y : SaidItem) → x.round ≡ y.round → comes_before x.seat x.to y.seat y.to ≡ true → item_before x y ≡ true
earlier_in_round x y e before =
    or_right (ltb x.round y.round) (eqb x.round y.round && comes_before x.seat x.to y.seat y.to)
    (and_from (eqb x.round y.round) (comes_before x.seat x.to y.seat y.to) (eq-eqb x.round y.round e) before)

earlier_seat : (x y : SaidItem) → x.round ≡ y.round → x.seat < y.seat → item_before x y ≡ true
earlier_seat x y e lt = earlier_in_round x y e (or_left (ltb x.seat y.seat) (eqb x.seat y.seat && ltb x.to y.to) (lt-ltb x.seat y.seat lt))

earlier_to : (x y : SaidItem) → x.round ≡ y.round → x.seat ≡ y.seat → x.to < y.to → item_before x y ≡ true
earlier_to x y e f lt =
    earlier_in_round x y e
    (or_right (ltb x.seat y.seat) (eqb x.seat y.seat && ltb x.to y.to)
    (and_from (eqb x.seat y.seat) (ltb x.to y.to) (eq-eqb x.seat y.seat f) (lt-ltb x.to y.to lt)))

sorted_one : (b : Bool) (x : SaidItem) → Sorted item_before (cond b [] (x ∷ []))
sorted_one true x = tt
sorted_one false x = (tt, tt)

sorted_if : (b : Bool) (xs : List SaidItem) → Sorted item_before xs → Sorted item_before (cond b xs [])
sorted_if true xs s = s
sorted_if false xs s = tt

-- where an item stands
record Stands (round seat to : ℕ) (x : SaidItem) : Type 0 where
  round_is : x.round ≡ round
  seat_is : x.seat ≡ seat
  to_is : x.to ≡ to

sorted_seat : (shape : Shape) (round seat : ℕ) (post : Post) (ring : ℕ → Ring) → Sorted item_before (seat_items shape round seat post ring)
sorted_seat shape round seat post ring =
    sorted_append item_before (post_items round seat post) (flat_map (λ to. ring_items round seat to (ring to)) (points_up_to (seats shape)))
    (sorted_one (is_quiet post) (post_item round seat post))
    (sorted_flat item_before (Stands round seat)
    (λ j k x y lt a b. earlier_to x y (a.round_is ∙ sym b.round_is) (a.seat_is ∙ sym b.seat_is) (omega (arith, lt, a.to_is, b.to_is)))
    (λ to. ring_items round seat to (ring to))
    (λ to. every_ring (Stands round seat to) round seat to (ring to) (λ said. record { round_is = refl; seat_is = refl; to_is = refl }))
    (λ to. sorted_one (is_nothing (ring to)) (ring_item round seat to (ring to))) (seats shape) 1)
    (every_post (λ x. Every (λ y. item_before x y ≡ true) (flat_map (λ to. ring_items round seat to (ring to)) (points_up_to (seats shape)))) round seat post
    (λ said. every_sent (λ y. item_before (post_item round seat post) y ≡ true) shape round seat ring
    (λ to from most e. earlier_to (post_item round seat post) (ring_item round seat to (ring to)) refl refl (omega (arith, from)))))

sorted_round : (shape : Shape) (round : ℕ) (down : ℕ → Bool) (post : ℕ → Post) (ring : ℕ → ℕ → Ring) → Sorted item_before (round_items shape round down post ring)
sorted_round shape round down post ring =
    sorted_flat item_before (λ seat x. (x.round ≡ round) × (x.seat ≡ seat))
    (λ j k x y lt a b. earlier_seat x y (a.0 ∙ sym b.0) (omega (arith, lt, a.1, b.1)))
    (λ seat. cond (down seat) (seat_items shape round seat (post seat) (ring seat)) [])
    (λ seat.
    every_if (λ x. (x.round ≡ round) × (x.seat ≡ seat)) (down seat) (seat_items shape round seat (post seat) (ring seat))
    (λ e. every_seat (λ x. (x.round ≡ round) × (x.seat ≡ seat)) shape round seat (post seat) (ring seat) (λ said. (refl, refl)) (λ to from most said. (refl, refl))))
    (λ seat. sorted_if (down seat) (seat_items shape round seat (post seat) (ring seat)) (sorted_seat shape round seat (post seat) (ring seat))) (seats shape) 1

pub said_ascends : (play : Play) → ascends item_before (said_in play) ≡ true
said_ascends play =
    sorted_ascends item_before (said_in play)
    (sorted_flat item_before (λ round x. x.round ≡ round) (λ j k x y lt a b. earlier_round x y (omega (arith, lt, a, b)))
    (λ round. round_items play.shape round play.down (play.post round) (play.ring round))
    (λ round.
    every_round (λ x. x.round ≡ round) play.shape round play.down (play.post round) (play.ring round)
    (λ seat from most e. every_seat (λ x. x.round ≡ round) play.shape round seat (play.post round seat) (play.ring round seat) (λ said. refl) (λ to a b said. refl)))
    (λ round. sorted_round play.shape round play.down (play.post round) (play.ring round)) (rounds play.shape) 1)

-- ---- each item is one that a record may have
true_false : (b : Bool) → b ≡ true → b ≡ false → ⊥
true_false b e f = let g : true ≡ false = sym e ∙ f in cc

apart_by : (rest : Bool) (seat to : ℕ) → (not (eqb seat to) && rest) ≡ true → to ≡ seat → ⊥
apart_by rest seat to e same = true_false (eqb seat to) (eq-eqb seat to (sym same)) (not-true (eqb seat to) (and_parts (not (eqb seat to)) rest e).0)

-- nobody sends to itself
apart : (shape : Shape) (round seat to : ℕ) (ring : Ring) → is_nothing ring ≡ false → ring_ok shape round seat to ring ≡ true → to ≡ seat → ⊥
apart shape round seat to Nothing said ok = let no : true ≡ false = said in cc
apart shape round seat to (Dealt list) said ok =
    let a = and_parts (eqb round 1) _ ok in
    let b = and_parts (deals shape seat) _ a.1 in
    apart_by _ seat to (and_parts (receives shape to) _ b.1).1
apart shape round seat to (Cross list) said ok =
    let a = and_parts (eqb round 2) _ ok in
    let b = and_parts (receives shape seat) _ a.1 in
    apart_by _ seat to (and_parts (receives shape to) _ b.1).1

module _ (play : Play) (mask : ℕ) (marks : Marks play.shape mask play.down) (is : IsPlay play) where
  item_fits : (x : SaidItem) → 1 ≤ x.round → x.round ≤ rounds play.shape → 1 ≤ x.seat → x.seat ≤ seats play.shape → play.down x.seat ≡ true → message_ok play.shape x ≡ true → item_ok play.shape mask x ≡ true
  item_fits x r1 rn s1 sn e ok =
      and_from (within 1 x.round (rounds play.shape)) _ (within_from 1 x.round (rounds play.shape) r1 rn)
      (and_from (within 1 x.seat (seats play.shape)) _ (within_from 1 x.seat (seats play.shape) s1 sn)
      (and_from (has mask x.seat) (message_ok play.shape x) (marks x.seat s1 sn ∙ e) ok))

  ring_fits : (round seat to : ℕ) (ring : Ring) → 1 ≤ to → to ≤ seats play.shape → is_nothing ring ≡ false → ring_ok play.shape round seat to ring ≡ true → message_ok play.shape (ring_item round seat to ring) ≡ true
  ring_fits round seat to ring t1 tn said ok =
      cond-false (eqb to 0) _ _ (ne_eqb to 0 (λ e. omega (arith, e, t1)))
      ∙ and_from (within 1 to (seats play.shape)) (not (eqb to seat) && ring_ok play.shape round seat to ring) (within_from 1 to (seats play.shape) t1 tn)
      (and_from (not (eqb to seat)) (ring_ok play.shape round seat to ring) (ap not (ne_eqb to seat (apart play.shape round seat to ring said ok))) ok)

  pub items_fit : list_all (item_ok play.shape mask) (said_in play) ≡ true
  items_fit =
      every_list_all (item_ok play.shape mask) (said_in play)
      (every_flat (λ x. item_ok play.shape mask x ≡ true) (λ round. round_items play.shape round play.down (play.post round) (play.ring round)) (rounds play.shape) 1
      (λ round r1 rn.
      every_round (λ x. item_ok play.shape mask x ≡ true) play.shape round play.down (play.post round) (play.ring round)
      (λ seat s1 sn e.
      every_seat (λ x. item_ok play.shape mask x ≡ true) play.shape round seat (play.post round seat) (play.ring round seat)
      (λ said. item_fits (post_item round seat (play.post round seat)) r1 (omega (arith, rn)) s1 sn e (is.posts round seat s1 sn e))
      (λ to t1 tn said.
      item_fits (ring_item round seat to (play.ring round seat to)) r1 (omega (arith, rn)) s1 sn e
      (ring_fits round seat to (play.ring round seat to) t1 tn said (is.rings round seat to s1 sn e))))))
