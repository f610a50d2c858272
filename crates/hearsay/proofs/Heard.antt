-- What is heard of the seats that are down, seat by seat and round by round.
use Rattle.std.proofs.Common.{◌≡◌, ℕ, zero, suc, ◌+◌, ◌-◌, ◌<◌, ◌≤◌, Bool, true, false, ◌&&◌, cond, List, [], ◌∷◌, ◌++◌, length, take, get_or, Some, slice_get, refl, sym, ap, ap₂, ◌∙◌, arith, append_assoc}
use Rattle.std.specs.List.{flat_map, range_with_len}
use Rattle.std.proofs.lemmas.List.{take_more, length-take-le}
use Rattle.std.proofs.lemmas.Option.{get_or_from_slice_get}
use Rattle.algebra61.specs.Field.{Fp}
use Rattle.talk.specs.declared.messages.Post.{Post}
use Rattle.talk.specs.declared.messages.Post.TheVariants.{Quiet}
use Rattle.talk.specs.declared.messages.Ring.{Ring}
use Rattle.talk.specs.declared.messages.Ring.TheVariants.{Nothing}
use Rattle.talk.specs.declared.messages.Say.{Say}
use Rattle.talk.specs.declared.messages.Say.TheVariants.{Pass}
use Rattle.talk.specs.Shape.{Shape, seats, rounds}
use Rattle.talk.specs.Read.{as_read, ring_as_read}
use Rattle.talk.specs.Sync.{Ways, has, post_in, ring_in, posts_heard, rings_heard, words_of, sync}
use Rattle.talk.proofs.Entries.{post_entry, ring_entry}
use Rattle.plays.specs.Run.{run_play}
use Rattle.plays.specs.Said.{points_up_to}
use Rattle.plays.specs.Seat.{post_at, ring_at}
use Rattle.plays.specs.Transcript.{transcript_of, posts_in, rings_in}
use Rattle.plays.proofs.Lists.{points_more}
use Rattle.plays.proofs.Steps.{flat_same}
use Rattle.playback.specs.declared.phase.SaidItem.{SaidItem}
use Rattle.playback.proofs.Places.{default_any}
use Rattle.hearsay.specs.Said.{Marks, post_items, ring_items, seat_items, round_items, said_in}

-- ---- one seat
module _ (s : Shape) (round mask : ℕ) (words : List Say) (k seat : ℕ) (word : Say) (lt : k < length words) (is : word ≡ get_or words k word) (place : seat ≡ k + 1) where
  word_is : get_or words k Pass ≡ word
  word_is = default_any words k Pass word lt ∙ sym is

  before_is : seat - 1 ≡ k
  before_is = omega (arith, place)

  seat_is : 1 + k ≡ seat
  seat_is = omega (arith, place)

  post_here : post_at (posts_heard s round mask 1 words) seat ≡ cond (has mask seat) (as_read s round seat (post_in word)) Quiet
  post_here =
      ap (λ i. get_or (posts_heard s round mask 1 words) i Quiet) before_is
      ∙ post_entry s round mask 1 words k lt
      ∙ ap₂ (λ (n : ℕ) (w : Say). cond (has mask n) (as_read s round n (post_in w)) Quiet) seat_is word_is

  ring_here : (to : ℕ) → ring_at (rings_heard s round mask to 1 words) seat ≡ cond (has mask seat) (ring_as_read s round seat to (ring_in to word)) Nothing
  ring_here to =
      ap (λ i. get_or (rings_heard s round mask to 1 words) i Nothing) before_is
      ∙ ring_entry s round mask to 1 words k lt
      ∙ ap₂ (λ (n : ℕ) (w : Say). cond (has mask n) (ring_as_read s round n to (ring_in to w)) Nothing) seat_is word_is

seat_same : (s : Shape) (round seat : ℕ) (p q : Post) (f g : ℕ → Ring) → p ≡ q → ((to : ℕ) → f to ≡ g to) → seat_items s round seat p f ≡ seat_items s round seat q g
seat_same s round seat p q f g e h =
    ap₂ (λ (xs ys : List SaidItem). xs ++ ys) (ap (post_items round seat) e)
    (flat_same (λ to. ring_items round seat to (f to)) (λ to. ring_items round seat to (g to)) (seats s) 1 (λ to a b. ap (ring_items round seat to) (h to)))

no_rings : (round seat n a : ℕ) → flat_map (λ to. ring_items round seat to Nothing) (range_with_len a n) ≡ []
no_rings round seat zero a = refl
no_rings round seat (suc n) a = no_rings round seat n (a + 1)

-- of who isn't in the mask nothing is heard
heard_or_not : (s : Shape) (round seat : ℕ) (p : Post) (f : ℕ → Ring) (b m : Bool) →
    cond (b && m) (seat_items s round seat p f) [] ≡ cond b (seat_items s round seat (cond m p Quiet) (λ to. cond m (f to) Nothing)) []
heard_or_not s round seat p f true true = refl
heard_or_not s round seat p f true false = sym (no_rings round seat (seats s) 1)
heard_or_not s round seat p f false m = refl

-- what is put at the end for a seat
pub seat_heard : (s : Shape) (round mask down : ℕ) (words : List Say) (k seat : ℕ) (word : Say) (heard : Bool) → k < length words → word ≡ get_or words k word → seat ≡ k + 1 →
    heard ≡ (has down seat && has mask seat) →
    cond heard (seat_items s round seat (as_read s round seat (post_in word)) (λ to. ring_as_read s round seat to (ring_in to word))) []
    ≡ cond (has down seat) (seat_items s round seat (post_at (posts_heard s round mask 1 words) seat) (λ to. ring_at (rings_heard s round mask to 1 words) seat)) []
seat_heard s round mask down words k seat word heard lt is place e =
    ap (λ (b : Bool). cond b (seat_items s round seat (as_read s round seat (post_in word)) (λ to. ring_as_read s round seat to (ring_in to word))) []) e
    ∙ heard_or_not s round seat (as_read s round seat (post_in word)) (λ to. ring_as_read s round seat to (ring_in to word)) (has down seat) (has mask seat)
    ∙ ap (λ (xs : List SaidItem). cond (has down seat) xs [])
    (seat_same s round seat _ _ _ _ (sym (post_here s round mask words k seat word lt is place)) (λ to. sym (ring_here s round mask words k seat word lt is place to)))

-- one seat more
pub seats_step : {A : Type 0} (f : ℕ → List A) (k seat : ℕ) (old xs ys : List A) → seat ≡ k + 1 → xs ≡ old ++ flat_map f (points_up_to k) → ys ≡ xs ++ f seat → ys ≡ old ++ flat_map f (points_up_to (k + 1))
seats_step {A} f k seat old xs ys place e ey =
    ey
    ∙ ap (λ (zs : List A). zs ++ f seat) e
    ∙ append_assoc old (flat_map f (points_up_to k)) (f seat)
    ∙ ap (λ (zs : List A). old ++ zs) (ap (λ j. flat_map f (points_up_to k) ++ f j) place ∙ sym (points_more f k))

-- ---- one round
-- what is heard in a round, under its mask, given the words
abbrev pub heard_words : Shape → ℕ → ℕ → ℕ → List Say → List SaidItem
heard_words s round mask down words =
    round_items s round (has down) (post_at (posts_heard s round mask 1 words)) (λ seat to. ring_at (rings_heard s round mask to 1 words) seat)

module _ {M : Type 0} where
  -- what is heard in a round of a run
  abbrev pub heard_round : Ways M → Shape → List ℕ → List M → ℕ → ℕ → List SaidItem
  heard_round w s masks ms down round =
      round_items s round (has down) (post_at (posts_in (transcript_of w s masks ms) round)) (λ seat to. ring_at (rings_in (transcript_of w s masks ms) round to) seat)

  pub round_heard : (w : Ways M) (s : Shape) (masks : List ℕ) (ms0 ms : List M) (down round mask : ℕ) (words : List Say) → slice_get masks (round - 1) ≡ Some mask →
      ms ≡ sync w s 1 (take (round - 1) masks) ms0 → words ≡ words_of w round ms → heard_words s round mask down words ≡ heard_round w s masks ms0 down round
  round_heard w s masks ms0 ms down round mask words at now said =
      ap₂ (λ (m : ℕ) (ws : List Say). heard_words s round m down ws) (sym (get_or_from_slice_get masks (round - 1) mask 0 at)) (said ∙ ap (words_of w round) now)

  -- whoever is down by the mask
  pub said_by : (w : Ways M) (s : Shape) (masks : List ℕ) (ms : List M) (down : ℕ) (faulty : ℕ → Bool) (own : ℕ → List (List (List Fp))) → Marks s down faulty →
      flat_map (heard_round w s masks ms down) (points_up_to (rounds s)) ≡ said_in (run_play w s masks ms faulty own)
  said_by w s masks ms down faulty own marks =
      flat_same (heard_round w s masks ms down) _ (rounds s) 1
      (λ round a b.
      flat_same _ _ (seats s) 1
      (λ seat from most.
      ap (λ (d : Bool). cond d (seat_items s round seat (post_at (posts_in (transcript_of w s masks ms) round) seat) (λ to. ring_at (rings_in (transcript_of w s masks ms) round to) seat)) [])
      (marks seat from (omega (arith, most)))))

-- ---- the masks of the rounds so far
pub more_masks : (masks : List ℕ) (round mask : ℕ) → 1 ≤ round → round ≤ length masks → slice_get masks (round - 1) ≡ Some mask → take (round + 1 - 1) masks ≡ take (round - 1) masks ++ mask ∷ []
more_masks masks round mask from most at =
    let next : round + 1 - 1 ≡ (round - 1) + 1 = omega (arith, from) in
    ap (λ n. take n masks) next
    ∙ take_more masks (round - 1) 0 (omega (arith, from, most))
    ∙ ap (λ (m : ℕ). take (round - 1) masks ++ m ∷ []) (get_or_from_slice_get masks (round - 1) mask 0 at)

pub length_masks : (masks : List ℕ) (round : ℕ) → 1 ≤ round → round ≤ length masks → length (take (round - 1) masks) + 1 ≡ round
length_masks masks round from most = omega (arith, from, length-take-le (round - 1) masks (omega (arith, most)))
