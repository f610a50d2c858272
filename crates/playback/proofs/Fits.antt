-- What is heard of a play has its shapes, and a seat is in its turn when it hears it.
use Rattle.std.proofs.Common.{◌≡◌, ℕ, zero, suc, ◌+◌, ◌-◌, ◌*◌, ◌<◌, ◌≤◌, Bool, true, false, ◌&&◌, not, eqb, cond, length, map, refl, subst, arith, add-one}
use Rattle.std.specs.List.{range_with_len}
use Rattle.std.proofs.lemmas.Bool.{and_from, and_parts, eq-eqb}
use Rattle.std.proofs.lemmas.List.FromFn.{length-map-range_with_len}
use Rattle.talk.specs.declared.messages.Post.{Post}
use Rattle.talk.specs.declared.messages.Ring.{Ring}
use Rattle.talk.specs.Shape.{Shape, instances, seats, deals, receives}
use Rattle.talk.specs.Read.{post_ok, ring_ok}
use Rattle.talk.specs.Hears.{PostsOk, RingsOk, Fits}
use Rattle.sharing61.specs.Instance.{held, complaint, shown, vote}
use Rattle.sharing61.specs.Rules.{at_point}
use Rattle.sizes.specs.Instances.{instance_at}
use Rattle.plays.specs.Play.{Play, instance_of}
use Rattle.plays.specs.Said.{dealt_list, cross_list, vote_list, dealt_by, crossed_by, complaints_by, reveals_by, votes_by, unless_down}
use Rattle.plays.specs.Heard.{post_by, ring_by, post_heard, ring_heard, play_heard}
use Rattle.plays.specs.Law.{IsPlay}
use Rattle.plays.specs.Stage.{IsTurn}
use Rattle.plays.proofs.Shapes.{complaints_shape, reveals_shape, length-dealt, length-cross, length-votes}
use Rattle.members.proofs.Turns.{speaks_next}
use Rattle.plays.specs.Stage.{receiver_at}
use Rattle.sharer.specs.Sharer.{MayHear}
use Rattle.playback.specs.Playing.{dealt_by_seat, stage_on_seat, member_on_seat}

-- ---- honest messages have their shapes
cond_ok : (s : Shape) (round seat : ℕ) (b : Bool) (x y : Post) → (b ≡ true → post_ok s round seat x ≡ true) → post_ok s round seat y ≡ true → post_ok s round seat (cond b x y) ≡ true
cond_ok s round seat true x y h r = h refl
cond_ok s round seat false x y h r = r

cond_ring_ok : (s : Shape) (round seat to : ℕ) (b : Bool) (x y : Ring) → (b ≡ true → ring_ok s round seat to x ≡ true) → ring_ok s round seat to y ≡ true → ring_ok s round seat to (cond b x y) ≡ true
cond_ring_ok s round seat to true x y h r = h refl
cond_ring_ok s round seat to false x y h r = r

complaints_fit : (p : Play) (round seat j : ℕ) → (eqb round 3 && receives p.shape seat) ≡ true → post_ok p.shape round seat (complaints_by p j) ≡ true
unfolding complaints_by
complaints_fit p round seat j e =
    let both = and_parts (eqb round 3) (receives p.shape seat) e in
    and_from (eqb round 3) _ both.0 (and_from (receives p.shape seat) _ both.1 (complaints_shape p.shape (λ i. complaint (instance_of p i) j)))

reveals_fit : (p : Play) (round seat : ℕ) → (eqb round 4 && deals p.shape seat) ≡ true → post_ok p.shape round seat (reveals_by p seat) ≡ true
unfolding reveals_by
reveals_fit p round seat e =
    let both = and_parts (eqb round 4) (deals p.shape seat) e in
    and_from (eqb round 4) _ both.0 (and_from (deals p.shape seat) _ both.1 (reveals_shape p.shape (λ l j. shown (instance_of p (instance_at seat l)) j)))

votes_fit : (p : Play) (round seat j : ℕ) → (eqb round 5 && receives p.shape seat) ≡ true → post_ok p.shape round seat (votes_by p j) ≡ true
unfolding votes_by
votes_fit p round seat j e =
    let both = and_parts (eqb round 5) (receives p.shape seat) e in
    and_from (eqb round 5) _ both.0
    (and_from (receives p.shape seat) _ both.1
    (eq-eqb (length (vote_list (instances p.shape) (λ i. vote (instance_of p i) j))) (instances p.shape) (length-votes (instances p.shape) (λ i. vote (instance_of p i) j))))

post_by_ok : (p : Play) (round seat : ℕ) → post_ok p.shape round seat (post_by p round seat) ≡ true
post_by_ok p round seat =
    cond_ok p.shape round seat (eqb round 3 && receives p.shape seat) _ _ (λ e. complaints_fit p round seat _ e)
    (cond_ok p.shape round seat (eqb round 4 && deals p.shape seat) _ _ (λ e. reveals_fit p round seat e)
    (cond_ok p.shape round seat (eqb round 5 && receives p.shape seat) _ _ (λ e. votes_fit p round seat _ e) refl))

dealt_fits : (p : Play) (round seat to j : ℕ) → (eqb round 1 && (deals p.shape seat && (receives p.shape to && not (eqb seat to)))) ≡ true → ring_ok p.shape round seat to (dealt_by p seat j) ≡ true
unfolding dealt_by
dealt_fits p round seat to j e =
    let a = and_parts (eqb round 1) _ e in
    let b = and_parts (deals p.shape seat) _ a.1 in
    let c = and_parts (receives p.shape to) (not (eqb seat to)) b.1 in
    and_from (eqb round 1) _ a.0
    (and_from (deals p.shape seat) _ b.0
    (and_from (receives p.shape to) _ c.0
    (and_from (not (eqb seat to)) _ c.1
    (eq-eqb (length (dealt_list p.shape.degree (λ l. held (instance_of p (instance_at seat l)) j))) (10 * (p.shape.degree + 1)) (length-dealt p.shape.degree (λ l. held (instance_of p (instance_at seat l)) j))))))

crossed_fits : (p : Play) (round seat to k j : ℕ) → (eqb round 2 && (receives p.shape seat && (receives p.shape to && not (eqb seat to)))) ≡ true → ring_ok p.shape round seat to (crossed_by p k j) ≡ true
unfolding crossed_by
crossed_fits p round seat to k j e =
    let a = and_parts (eqb round 2) _ e in
    let b = and_parts (receives p.shape seat) _ a.1 in
    let c = and_parts (receives p.shape to) (not (eqb seat to)) b.1 in
    and_from (eqb round 2) _ a.0
    (and_from (receives p.shape seat) _ b.0
    (and_from (receives p.shape to) _ c.0
    (and_from (not (eqb seat to)) _ c.1
    (eq-eqb (length (cross_list (instances p.shape) (λ i. at_point (held (instance_of p i) k) j))) (2 * instances p.shape) (length-cross (instances p.shape) (λ i. at_point (held (instance_of p i) k) j))))))

ring_by_ok : (p : Play) (round seat to : ℕ) → ring_ok p.shape round seat to (ring_by p round seat to) ≡ true
ring_by_ok p round seat to =
    cond_ring_ok p.shape round seat to (eqb round 1 && (deals p.shape seat && (receives p.shape to && not (eqb seat to)))) _ _ (λ e. dealt_fits p round seat to _ e)
    (cond_ring_ok p.shape round seat to (eqb round 2 && (receives p.shape seat && (receives p.shape to && not (eqb seat to)))) _ _ (λ e. crossed_fits p round seat to _ _ e) refl)

-- ---- and so have those that are heard
post_heard_by : (p : Play) → IsPlay p → (round seat : ℕ) → 1 ≤ seat → seat ≤ seats p.shape → (b : Bool) → p.down seat ≡ b → post_ok p.shape round seat (unless_down b (p.post round seat) (post_by p round seat)) ≡ true
post_heard_by p is round seat from to true e = is.posts round seat from to e
post_heard_by p is round seat from to false e = post_by_ok p round seat

ring_heard_by : (p : Play) → IsPlay p → (round seat to : ℕ) → 1 ≤ seat → seat ≤ seats p.shape → (b : Bool) → p.down seat ≡ b → ring_ok p.shape round seat to (unless_down b (p.ring round seat to) (ring_by p round seat to)) ≡ true
ring_heard_by p is round seat to from most true e = is.rings round seat to from most e
ring_heard_by p is round seat to from most false e = ring_by_ok p round seat to

posts_heard_ok : (p : Play) → IsPlay p → (round n a : ℕ) → 1 ≤ a → a + n ≤ seats p.shape + 1 → PostsOk p.shape round a (map (post_heard p round) (range_with_len a n))
posts_heard_ok p is round zero a from le = tt
posts_heard_ok p is round (suc n) a from le =
    (post_heard_by p is round a from (omega (arith, le)) (p.down a) refl, posts_heard_ok p is round n (a + 1) (omega arith) (omega (arith, le)))

rings_heard_ok : (p : Play) → IsPlay p → (round to n a : ℕ) → 1 ≤ a → a + n ≤ seats p.shape + 1 → RingsOk p.shape round to a (map (λ seat. ring_heard p round seat to) (range_with_len a n))
rings_heard_ok p is round to zero a from le = tt
rings_heard_ok p is round to (suc n) a from le =
    (ring_heard_by p is round a to from (omega (arith, le)) (p.down a) refl, rings_heard_ok p is round to n (a + 1) (omega arith) (omega (arith, le)))

pub heard_fits : (p : Play) → IsPlay p → (round to : ℕ) → Fits p.shape to round (play_heard p round to)
heard_fits p is round to = record {
  posts_all = length-map-range_with_len (post_heard p round) 1 (seats p.shape);
  rings_all = length-map-range_with_len (λ seat. ring_heard p round seat to) 1 (seats p.shape);
  posts_ok = posts_heard_ok p is round (seats p.shape) 1 (omega arith) (omega arith);
  rings_ok = rings_heard_ok p is round to (seats p.shape) 1 (omega arith) (omega arith);
}

-- ---- turns
pub turn_on_seat : (p : Play) (seat n : ℕ) → n < 5 → IsTurn (suc n) (stage_on_seat p seat n)
turn_on_seat p seat zero lt = refl
turn_on_seat p seat (suc n) lt =
    subst (λ (k : ℕ). IsTurn k (stage_on_seat p seat (suc n))) (add-one (suc n))
    (speaks_next p.shape (receiver_at p.shape seat) (dealt_by_seat p seat) (play_heard p (suc n) seat) (stage_on_seat p seat n) (suc n) (turn_on_seat p seat n (omega (arith, lt))) (omega (arith, lt)))

-- so a seat may hear what is heard of the play
pub may_hear : (p : Play) → IsPlay p → (seat n : ℕ) → n < 5 → MayHear (member_on_seat p n seat) (play_heard p (suc n) seat)
may_hear p is seat n lt = record { round = suc n; turn = turn_on_seat p seat n lt; fits = heard_fits p is (suc n) seat }
