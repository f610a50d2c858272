-- In a run by the rules everybody hears of every seat what the play says.
use Rattle.std.proofs.Common.{◌≡◌, ℕ, zero, suc, ◌+◌, ◌<◌, ◌≤◌, Bool, true, false, ◌&&◌, not, eqb, leb, cond, List, refl, sym, ap, ap₂, ◌∙◌, arith}
use Rattle.std.proofs.lemmas.Bool.{cond-false, leb-true, eq-eqb, ne_eqb, not-true, and_parts}
use Rattle.algebra61.specs.Field.{Fp}
use Rattle.talk.specs.declared.messages.Post.{Post}
use Rattle.talk.specs.declared.messages.Post.TheVariants.{Quiet}
use Rattle.talk.specs.declared.messages.Ring.{Ring}
use Rattle.talk.specs.declared.messages.Ring.TheVariants.{Nothing}
use Rattle.talk.specs.Shape.{Shape, seats, within, deals, receives}
use Rattle.talk.specs.Read.{post_ok, ring_ok}
use Rattle.talk.specs.Sync.{has}
use Rattle.plays.specs.Play.{Play, seat_of}
use Rattle.plays.specs.Said.{complaints_by, reveals_by, votes_by, dealt_by, crossed_by, unless_down}
use Rattle.plays.specs.Seat.{post_at, ring_at}
use Rattle.plays.specs.Stage.{stage_post, stage_ring, receiver_at}
use Rattle.plays.specs.Heard.{post_by, ring_by}
use Rattle.plays.specs.Transcript.{Transcript, HonestSeat, posts_in, rings_in}
use Rattle.plays.specs.Run.{play_of, stage_in, ByTheRules, RunIsHeard}
use Rattle.plays.proofs.Rounds.{heard_post, heard_ring, post_as_said, ring_as_said, dealt_said, cross_said, complaints_said, reveals_said, votes_said}

-- ---- seats by what sits there
within_parts : (a k b : ℕ) → within a k b ≡ true → (a ≤ k) × (k ≤ b)
within_parts a k b e = let both = and_parts (leb a k) (leb k b) e in (leb-true a k both.0, leb-true k b both.1)

pub record Receiver (s : Shape) (seat : ℕ) : Type 0 where
  pub from : 1 ≤ receiver_at s seat
  pub to : receiver_at s seat ≤ s.receivers
  pub seat_is : seat_of s (receiver_at s seat) ≡ seat

receiver_there : (s : Shape) (seat : ℕ) → receives s seat ≡ true → Receiver s seat
receiver_there s seat e =
    let r = within_parts (s.shift + 1) seat (seats s) e in
    record { from = omega (arith, r.0); to = omega (arith, r.1); seat_is = omega (arith, r.0) }

not_both : (b : Bool) → b ≡ true → b ≡ false → ⊥
not_both b e f = let g : true ≡ false = sym e ∙ f in cc

-- two receivers on two seats are two
receivers_apart : (s : Shape) (seat to : ℕ) → Receiver s seat → Receiver s to → eqb seat to ≡ false → eqb (receiver_at s seat) (receiver_at s to) ≡ false
receivers_apart s seat to a b ne =
    ne_eqb (receiver_at s seat) (receiver_at s to) (λ e. not_both (eqb seat to) (eq-eqb seat to (sym a.seat_is ∙ ap (seat_of s) e ∙ b.seat_is)) ne)

module _ (t : Transcript) (down : ℕ → Bool) (own : ℕ → List (List (List Fp))) (h : ByTheRules t down own) where
  abbrev p : Play
  p = play_of t down own

  -- an honest seat's post and ring message, of the right shape, are heard as said
  said_post : (k seat : ℕ) → k < 5 → HonestSeat t.shape down seat → (q : Post) → stage_post t.shape seat (own seat) (stage_in t (own seat) seat k) ≡ q → post_ok t.shape (suc k) seat q ≡ true →
      post_at (posts_in t (suc k)) seat ≡ q
  said_post k seat lt honest q e ok =
      heard_post t (suc k) seat honest.from (omega (arith, honest.to, h.all k lt))
      ∙ post_as_said t.shape (suc k) seat (has (t.mask (suc k)) seat) _ q (h.in_mask k seat lt honest) (h.posts k seat lt honest ∙ e) ok

  said_ring : (k seat to : ℕ) → k < 5 → HonestSeat t.shape down seat → 1 ≤ to → to ≤ seats t.shape → (r : Ring) → stage_ring t.shape seat (own seat) (stage_in t (own seat) seat k) to ≡ r →
      ring_ok t.shape (suc k) seat to r ≡ true → ring_at (rings_in t (suc k) to) seat ≡ r
  said_ring k seat to lt honest from last r e ok =
      heard_ring t (suc k) seat to honest.from (omega (arith, honest.to, h.all k lt))
      ∙ ring_as_said t.shape (suc k) seat to (has (t.mask (suc k)) seat) _ r (h.in_mask k seat lt honest) (h.rings k seat to lt honest from last ∙ e) ok

  -- ---- posts
  third : (seat : ℕ) → HonestSeat t.shape down seat → (b : Bool) → receives t.shape seat ≡ b → post_at (posts_in t 3) seat ≡ cond b (complaints_by p (receiver_at t.shape seat)) Quiet
  third seat honest true e =
      let r = receiver_there t.shape seat e in
      let j : ℕ = receiver_at t.shape seat in
      let up : down (seat_of t.shape j) ≡ false = ap down r.seat_is ∙ honest.up in
      ap (post_at (posts_in t 3)) (sym r.seat_is) ∙ complaints_said t down own h j r.from r.to false up
  third seat honest false e = said_post 2 seat (omega arith) honest Quiet (cond-false (receives t.shape seat) _ _ e) refl

  fourth : (seat : ℕ) → HonestSeat t.shape down seat → (b : Bool) → deals t.shape seat ≡ b → post_at (posts_in t 4) seat ≡ cond b (reveals_by p seat) Quiet
  fourth seat honest true e = let r = within_parts 1 seat t.shape.dealers e in reveals_said t down own h seat r.0 r.1 false honest.up
  fourth seat honest false e = said_post 3 seat (omega arith) honest Quiet (cond-false (deals t.shape seat) _ _ e) refl

  fifth : (seat : ℕ) → HonestSeat t.shape down seat → (b : Bool) → receives t.shape seat ≡ b → post_at (posts_in t 5) seat ≡ cond b (votes_by p (receiver_at t.shape seat)) Quiet
  fifth seat honest true e =
      let r = receiver_there t.shape seat e in
      let j : ℕ = receiver_at t.shape seat in
      let up : down (seat_of t.shape j) ≡ false = ap down r.seat_is ∙ honest.up in
      ap (post_at (posts_in t 5)) (sym r.seat_is) ∙ votes_said t down own h j r.from r.to false up
  fifth seat honest false e = said_post 4 seat (omega arith) honest Quiet (cond-false (receives t.shape seat) _ _ e) refl

  -- a post of an honest seat is the play's, round by round
  post_of : (round seat : ℕ) → 1 ≤ round → round ≤ 5 → HonestSeat t.shape down seat → post_at (posts_in t round) seat ≡ post_by p round seat
  post_of zero seat lo hi honest = absurd (omega (arith, lo))
  post_of (suc zero) seat lo hi honest = said_post 0 seat (omega arith) honest Quiet refl refl
  post_of (suc (suc zero)) seat lo hi honest = said_post 1 seat (omega arith) honest Quiet refl refl
  post_of (suc (suc (suc zero))) seat lo hi honest = third seat honest (receives t.shape seat) refl
  post_of (suc (suc (suc (suc zero)))) seat lo hi honest = fourth seat honest (deals t.shape seat) refl
  post_of (suc (suc (suc (suc (suc zero))))) seat lo hi honest = fifth seat honest (receives t.shape seat) refl
  post_of (suc (suc (suc (suc (suc (suc n)))))) seat lo hi honest = absurd (omega (arith, hi))

  -- ---- ring messages
  first : (seat to : ℕ) → HonestSeat t.shape down seat → 1 ≤ to → to ≤ seats t.shape → (b : Bool) → (deals t.shape seat && (receives t.shape to && not (eqb seat to))) ≡ b →
      ring_at (rings_in t 1 to) seat ≡ cond b (dealt_by p seat (receiver_at t.shape to)) Nothing
  first seat to honest from last true e =
      let both = and_parts (deals t.shape seat) (receives t.shape to && not (eqb seat to)) e in
      let rest = and_parts (receives t.shape to) (not (eqb seat to)) both.1 in
      let d = within_parts 1 seat t.shape.dealers both.0 in
      let r = receiver_there t.shape to rest.0 in
      let j : ℕ = receiver_at t.shape to in
      ap (λ n. ring_at (rings_in t 1 n) seat) (sym r.seat_is)
      ∙ dealt_said t down own h seat j d.0 d.1 r.from r.to (ap (eqb seat) r.seat_is ∙ not-true (eqb seat to) rest.1) false honest.up
  first seat to honest from last false e = said_ring 0 seat to (omega arith) honest from last Nothing (cond-false (deals t.shape seat && (receives t.shape to && not (eqb seat to))) _ _ e) refl

  second : (seat to : ℕ) → HonestSeat t.shape down seat → 1 ≤ to → to ≤ seats t.shape → (b : Bool) → (receives t.shape seat && (receives t.shape to && not (eqb seat to))) ≡ b →
      ring_at (rings_in t 2 to) seat ≡ cond b (crossed_by p (receiver_at t.shape seat) (receiver_at t.shape to)) Nothing
  second seat to honest from last true e =
      let both = and_parts (receives t.shape seat) (receives t.shape to && not (eqb seat to)) e in
      let rest = and_parts (receives t.shape to) (not (eqb seat to)) both.1 in
      let a = receiver_there t.shape seat both.0 in
      let b = receiver_there t.shape to rest.0 in
      let k : ℕ = receiver_at t.shape seat in
      let j : ℕ = receiver_at t.shape to in
      ap₂ (λ n m. ring_at (rings_in t 2 n) m) (sym b.seat_is) (sym a.seat_is)
      ∙ cross_said t down own h k j a.from a.to b.from b.to (receivers_apart t.shape seat to a b (not-true (eqb seat to) rest.1)) false (ap down a.seat_is ∙ honest.up)
  second seat to honest from last false e = said_ring 1 seat to (omega arith) honest from last Nothing (cond-false (receives t.shape seat && (receives t.shape to && not (eqb seat to))) _ _ e) refl

  -- and so is a ring message
  ring_of : (round seat to : ℕ) → 1 ≤ round → round ≤ 5 → HonestSeat t.shape down seat → 1 ≤ to → to ≤ seats t.shape → ring_at (rings_in t round to) seat ≡ ring_by p round seat to
  ring_of zero seat to lo hi honest from last = absurd (omega (arith, lo))
  ring_of (suc zero) seat to lo hi honest from last = first seat to honest from last (deals t.shape seat && (receives t.shape to && not (eqb seat to))) refl
  ring_of (suc (suc zero)) seat to lo hi honest from last = second seat to honest from last (receives t.shape seat && (receives t.shape to && not (eqb seat to))) refl
  ring_of (suc (suc (suc zero))) seat to lo hi honest from last = said_ring 2 seat to (omega arith) honest from last Nothing refl refl
  ring_of (suc (suc (suc (suc zero)))) seat to lo hi honest from last = said_ring 3 seat to (omega arith) honest from last Nothing refl refl
  ring_of (suc (suc (suc (suc (suc zero))))) seat to lo hi honest from last = said_ring 4 seat to (omega arith) honest from last Nothing refl refl
  ring_of (suc (suc (suc (suc (suc (suc n)))))) seat to lo hi honest from last = absurd (omega (arith, hi))

  -- what is heard of a seat that is down is what it says in the play
  heard_cases : (round seat : ℕ) → 1 ≤ round → round ≤ 5 → 1 ≤ seat → seat ≤ seats t.shape → (b : Bool) → down seat ≡ b →
      (post_at (posts_in t round) seat ≡ unless_down b (post_at (posts_in t round) seat) (post_by p round seat))
      × ((to : ℕ) → 1 ≤ to → to ≤ seats t.shape → ring_at (rings_in t round to) seat ≡ unless_down b (ring_at (rings_in t round to) seat) (ring_by p round seat to))
  heard_cases round seat lo hi from last true e = (refl, λ to a b. refl)
  heard_cases round seat lo hi from last false e =
      let honest : HonestSeat t.shape down seat = record { from = from; to = last; up = e } in
      (post_of round seat lo hi honest, λ to a b. ring_of round seat to lo hi honest a b)

pub run_is_heard : RunIsHeard
run_is_heard t down own h round seat lo hi from last = heard_cases t down own h round seat lo hi from last (down seat) refl
