-- A seat that goes by the rules says in each round what is read of it in the play.
use Rattle.std.proofs.Common.{inl, inr, ◌≡◌, ℕ, zero, suc, ◌+◌, ◌-◌, ◌*◌, ◌<◌, ◌≤◌, Bool, true, false, ◌&&◌, not, eqb, leb, cond, List, [], map, get_or, refl, sym, ap, ap₂, ◌∙◌, subst, arith, Option}
use Rattle.std.proofs.lemmas.Bool.{cases_lt, cond-true, leb-true, and_parts}
use Rattle.std.proofs.lemmas.List.FromFn.{get_or-map-range_with_len}
use Rattle.algebra61.specs.Field.{Fp}
use Rattle.checks61.proofs.Errors.{check_same, syndrome_same}
use Rattle.sharing61.specs.Count.{anyone}
use Rattle.sharing61.specs.Rules.{Pair, pair_on, at_point, reveal_of, off_grid, shown_if}
use Rattle.sharing61.specs.declared.Crossing.{Crossing}
use Rattle.sharing61.specs.Instance.{held, complaint, shown, vote}
use Rattle.sharing61.specs.Agreement.{Deals}
use Rattle.sharing61.proofs.Count.{anyone_same}
use Rattle.sharing61.proofs.Own.{shown_own}
use Rattle.sizes.specs.Instances.{dealer_of, instance_at}
use Rattle.talk.specs.declared.messages.Post.{Post}
use Rattle.talk.specs.declared.messages.Post.TheVariants.{Quiet, Complaints, Reveals, Votes, Syndromes}
use Rattle.talk.specs.declared.messages.Ring.{Ring}
use Rattle.talk.specs.declared.messages.Ring.TheVariants.{Nothing, Dealt, Cross}
use Rattle.talk.specs.declared.messages.Say.TheVariants.{Speak}
use Rattle.talk.specs.Shape.{Shape, Lawful, instances, seats, within, deals, receives}
use Rattle.plays.specs.Play.{Play, instance_of, seat_of}
use Rattle.plays.specs.Said.{points_up_to, pair_list, crossing_values, reveal_item, dealt_list, cross_list, complaint_list, reveal_list, vote_list, dealt_by, crossed_by, complaints_by, reveals_by, votes_by, unless_down, complaints_heard}
use Rattle.plays.specs.Seat.{post_at, pair_at, reveals}
use Rattle.plays.specs.Law.{HonestIn}
use Rattle.plays.specs.Heard.{ring_by, post_heard, ring_heard, play_heard}
use Rattle.plays.specs.Stage.{Stage, AtReady, AtDealt, AtCrossed, AtComplained, AtRevealed, AtDone, received, kept_of_round, stage_after, stage_ring, receiver_at}
use Rattle.plays.proofs.Shapes.{within_from}
use Rattle.plays.proofs.Bridge.{heard_complaint_is}
use Rattle.plays.proofs.Ends.{held_mine}
use Rattle.plays.proofs.Proper.{dealer_is}
use Rattle.plays.proofs.Steps.{flat_same, pairs_of, pair_at-pairs_of}
use Rattle.members.specs.Member.{rings_said}
use Rattle.periods.specs.Move.{subshare, syndrome_list, syndromes_by}
use Rattle.periods.specs.Mover.{mover_post}
use Rattle.periods.proofs.Sixth.{subshare_is}
use Rattle.histories61.specs.Playing.{stage_after_rounds, stage_in_play}
use Rattle.histories61.proofs.Lists.{cond_same, unless_same, map_same}
use Rattle.histories61.proofs.Playing.{heard_to_its_end}
use Rattle.choices61.specs.Views.{post_by_rules}
use Rattle.choices61.proofs.Products.{ReceiverOn, receiver_on}
use Rattle.playback.specs.Playing.{dealt_by_seat, stage_on_seat, word_read}

-- ---- the play's messages, from their parts
complaints_are : (p : Play) (j : ℕ) → Complaints (complaint_list (instances p.shape) p.shape.receivers (λ i. complaint (instance_of p i) j)) ≡ complaints_by p j
unfolding complaints_by
complaints_are p j = refl

votes_are : (p : Play) (j : ℕ) → Votes (vote_list (instances p.shape) (λ i. vote (instance_of p i) j)) ≡ votes_by p j
unfolding votes_by
votes_are p j = refl

dealt_are : (p : Play) (k j : ℕ) (pair : ℕ → Pair) → ((l : ℕ) → l < 5 → pair l ≡ held (instance_of p (instance_at k l)) j) → Dealt (dealt_list p.shape.degree pair) ≡ dealt_by p k j
unfolding dealt_by
dealt_are p k j pair h = ap (λ xs. Dealt xs) (flat_same _ _ 5 0 (λ l a b. ap (pair_list p.shape.degree) (h l (omega (arith, b)))))

crossed_are : (p : Play) (k j : ℕ) → Cross (cross_list (instances p.shape) (λ i. at_point (pair_at (pairs_of p k) i) j)) ≡ crossed_by p k j
unfolding crossed_by
crossed_are p k j = ap (λ xs. Cross xs) (flat_same _ _ (instances p.shape) 0 (λ i a b. ap (λ q. crossing_values (at_point q j)) (pair_at-pairs_of p k i (omega (arith, b)))))

reveals_are : (p : Play) (k : ℕ) (pair : ℕ → ℕ → Option Pair) → ((l j : ℕ) → l < 5 → 1 ≤ j → j ≤ p.shape.receivers → pair l j ≡ shown (instance_of p (instance_at k l)) j) →
    Reveals (reveal_list p.shape.degree p.shape.receivers pair) ≡ reveals_by p k
unfolding reveals_by
reveals_are p k pair h =
    ap (λ rs. Reveals rs)
    (flat_same _ _ 5 0 (λ l a b. flat_same _ _ p.shape.receivers 1 (λ j c e. ap (reveal_item p.shape.degree l j) (h l j (omega (arith, b)) c (omega (arith, e))))))

syndromes_are : (p : Play) (j : ℕ) (subshares : ℕ → ℕ → Fp) → ((l i : ℕ) → l < 5 → 1 ≤ i → i ≤ p.shape.dealers → subshares l i ≡ subshare p l i j) → Syndromes (syndrome_list p.shape subshares) ≡ syndromes_by p j
unfolding syndromes_by
syndromes_are p j subshares h =
    ap (λ xs. Syndromes xs)
    (flat_same _ _ 5 0 (λ l a b. syndrome_same p.shape.dealers p.shape.checks (subshares l) (λ i. subshare p l i j) (λ m lt. check_same p.shape.dealers m (subshares l) (λ i. subshare p l i j) (λ i x y. h l i (omega (arith, b)) x y))))

reveal_of_same : (n : ℕ) (f g : List (List Fp)) (c o : ℕ → Option Crossing) (j : ℕ) → f ≡ g → ((k : ℕ) → 1 ≤ k → k ≤ n → c k ≡ o k) → reveal_of n f c j ≡ reveal_of n g o j
reveal_of_same n f g c o j e h =
    ap₂ (λ b q. shown_if b q) (ap (λ m. anyone n (λ k. off_grid m j k (c k))) e ∙ anyone_same n _ (λ k. off_grid g j k (o k)) (λ k a b. ap (off_grid g j k) (h k a b))) (ap (λ m. pair_on m j) e)

receivers_of : (p : Play) (i : ℕ) → (instance_of p i).receivers ≡ p.shape.receivers
unfolding instance_of
receivers_of p i = refl

unless_up : {A : Type 0} (b : Bool) (x y : A) → b ≡ false → y ≡ unless_down b x y
unless_up true x y e = let no : true ≡ false = e in cc
unless_up false x y e = refl

not_false : (b : Bool) → b ≡ true → b ≡ false → ⊥
not_false b e f = let g : true ≡ false = sym e ∙ f in cc

within_parts : (a k b : ℕ) → within a k b ≡ true → (a ≤ k) × (k ≤ b)
within_parts a k b e = let both = and_parts (leb a k) (leb k b) e in (leb-true a k both.0, leb-true k b both.1)

-- ---- what a seat that only deals keeps: the posts of two rounds
abbrev dealing_stage : Play → ℕ → Stage
dealing_stage p zero = AtReady
dealing_stage p (suc zero) = AtDealt []
dealing_stage p (suc (suc zero)) = AtCrossed [] []
dealing_stage p (suc (suc (suc zero))) = AtComplained [] (map (post_heard p 3) (points_up_to (seats p.shape)))
dealing_stage p (suc (suc (suc (suc zero)))) = AtRevealed [] (map (post_heard p 4) (points_up_to (seats p.shape))) []
dealing_stage p (suc (suc (suc (suc (suc n))))) = AtDone [] []

apart_none : (s : Shape) (seat : ℕ) → receives s seat ≡ false → seat ≤ seats s → receiver_at s seat ≡ 0
apart_none s seat e le =
    elim (cases_lt seat (s.shift + 1)) [
      | inl lt ↦ omega (arith, lt)
      | inr past ↦ absurd (not_false (receives s seat) (within_from (s.shift + 1) seat (seats s) (omega (arith, past)) le) e)
    ]

module _ (p : Play) (lw : Lawful p.shape) (al : (i : ℕ) → Deals p.shape.degree (instance_of p i).dealer) where
  own_at : (seat l : ℕ) → deals p.shape seat ≡ true → l < 5 → get_or (dealt_by_seat p seat) l [] ≡ p.grid (instance_at seat l)
  own_at seat l e l5 =
      ap (λ (g : List (List (List Fp))). get_or g l []) (cond-true (deals p.shape seat) _ _ e)
      ∙ get_or-map-range_with_len (λ lane. p.grid (instance_at seat lane)) 0 5 l l [] l5 (omega arith)

  -- ---- a receiver's stages
  rounds_same : (seat : ℕ) → ReceiverOn p.shape seat → (n : ℕ) → stage_on_seat p seat n ≡ stage_after_rounds p (receiver_at p.shape seat) (dealt_by_seat p seat) n
  rounds_same seat r zero = refl
  rounds_same seat r (suc n) =
      ap₂ (λ (k : ℕ) (st : Stage). stage_after p.shape (receiver_at p.shape seat) (dealt_by_seat p seat) (play_heard p (suc n) k) st) (sym r.seat_is) (rounds_same seat r n)

  honest_on : (seat : ℕ) → ReceiverOn p.shape seat → p.down seat ≡ false → HonestIn p (receiver_at p.shape seat)
  honest_on seat r up = record { from = r.from; to = r.to; up = ap p.down r.seat_is ∙ up }

  pub receiver_stage : (seat : ℕ) → ReceiverOn p.shape seat → p.down seat ≡ false → (n : ℕ) → n ≤ 5 → stage_on_seat p seat n ≡ stage_in_play p (receiver_at p.shape seat) n
  receiver_stage seat r up n le =
      rounds_same seat r n
      ∙ heard_to_its_end p (receiver_at p.shape seat) (dealt_by_seat p seat) lw al (honest_on seat r up)
      (λ lane l5 most.
      let here : seat ≤ p.shape.dealers = omega (arith, r.seat_is, most) in
      own_at seat lane (within_from 1 seat p.shape.dealers (omega (arith, r.seat_is, r.from)) here) l5 ∙ ap (λ k. p.grid (instance_at k lane)) (sym r.seat_is))
      n le

  -- ---- a dealing seat's stages
  module _ (seat : ℕ) (apart : receives p.shape seat ≡ false) (le : seat ≤ seats p.shape) where
    none_here : received p.shape (receiver_at p.shape seat) ≡ 0
    none_here = ap (received p.shape) (apart_none p.shape seat apart le)

    step_is : (n : ℕ) (st : Stage) → stage_on_seat p seat n ≡ st →
        stage_on_seat p seat (suc n) ≡ kept_of_round 0 p.shape (receiver_at p.shape seat) (dealt_by_seat p seat) (play_heard p (suc n) seat) st
    step_is n st e =
        ap (stage_after p.shape (receiver_at p.shape seat) (dealt_by_seat p seat) (play_heard p (suc n) seat)) e
        ∙ ap (λ m. kept_of_round m p.shape (receiver_at p.shape seat) (dealt_by_seat p seat) (play_heard p (suc n) seat) st) none_here

    dealing_one : stage_on_seat p seat 1 ≡ dealing_stage p 1
    dealing_one = step_is 0 AtReady refl

    dealing_two : stage_on_seat p seat 2 ≡ dealing_stage p 2
    dealing_two = step_is 1 (AtDealt []) dealing_one

    dealing_three : stage_on_seat p seat 3 ≡ dealing_stage p 3
    dealing_three = step_is 2 (AtCrossed [] []) dealing_two

    dealing_four : stage_on_seat p seat 4 ≡ dealing_stage p 4
    dealing_four = step_is 3 (dealing_stage p 3) dealing_three

    dealing_is : (n : ℕ) → n ≤ 5 → stage_on_seat p seat n ≡ dealing_stage p n
    dealing_is zero h = refl
    dealing_is (suc zero) h = dealing_one
    dealing_is (suc (suc zero)) h = dealing_two
    dealing_is (suc (suc (suc zero))) h = dealing_three
    dealing_is (suc (suc (suc (suc zero)))) h = dealing_four
    dealing_is (suc (suc (suc (suc (suc zero))))) h = step_is 4 (dealing_stage p 4) dealing_four
    dealing_is (suc (suc (suc (suc (suc (suc n)))))) h = absurd (omega (arith, h))

  -- ---- the third round as it is heard
  third_is : (j : ℕ) → 1 ≤ j → j ≤ p.shape.receivers → post_at (map (post_heard p 3) (points_up_to (seats p.shape))) (seat_of p.shape j) ≡ complaints_heard p j
  third_is j a b =
      get_or-map-range_with_len (post_heard p 3) 1 (seats p.shape) (seat_of p.shape j - 1) (seat_of p.shape j) Quiet (omega (arith, a, b)) (omega (arith, a))
      ∙ unless_same (p.down (seat_of p.shape j)) _ _ _
      (λ up. cond-true (receives p.shape (seat_of p.shape j)) _ _ (within_from (p.shape.shift + 1) (seat_of p.shape j) (seats p.shape) (omega (arith, a)) (omega (arith, b))) ∙ ap (complaints_by p) (let e : receiver_at p.shape (seat_of p.shape j) ≡ j = omega arith in e))

  reveals_is : (seat l j : ℕ) → deals p.shape seat ≡ true → p.down seat ≡ false → l < 5 → 1 ≤ j → j ≤ p.shape.receivers →
      reveals p.shape (dealt_by_seat p seat) (map (post_heard p 3) (points_up_to (seats p.shape))) seat l j ≡ shown (instance_of p (instance_at seat l)) j
  reveals_is seat l j e up l5 j1 jn =
      let d = within_parts 1 seat p.shape.dealers e in
      let i : ℕ = instance_at seat l in
      let there : dealer_of i ≡ seat = omega (arith, d.0, l5) in
      reveal_of_same p.shape.receivers (get_or (dealt_by_seat p seat) l []) (p.grid i) _ (complaint (instance_of p i) j) j (own_at seat l e l5)
      (λ m m1 mn. heard_complaint_is p (map (post_heard p 3) (points_up_to (seats p.shape))) i j m (omega (arith, l5, d.0, d.1)) m1 mn (third_is j j1 jn))
      ∙ ap (λ n. reveal_of n (p.grid i) (complaint (instance_of p i) j) j) (sym (receivers_of p i))
      ∙ sym (shown_own (instance_of p i) (p.grid i) j (dealer_is p i (ap p.down there ∙ up)))

  -- ---- posts
  -- a stage in which the seat posts what is read of it after k rounds
  abbrev Posts : ℕ → ℕ → Stage → Type 0
  Posts seat k stage = mover_post p.shape seat (dealt_by_seat p seat) stage ≡ post_by_rules p (suc k) seat

  fourth_post : (seat : ℕ) (pairs : List Pair) → p.down seat ≡ false → Posts seat 3 (AtComplained pairs (map (post_heard p 3) (points_up_to (seats p.shape))))
  fourth_post seat pairs up = cond_same (deals p.shape seat) _ _ _ _ (λ e. reveals_are p seat _ (λ l j l5 j1 jn. reveals_is seat l j e up l5 j1 jn)) refl

  receiver_posts : (seat : ℕ) → p.down seat ≡ false → (k : ℕ) → k < 6 → Posts seat k (stage_in_play p (receiver_at p.shape seat) k)
  receiver_posts seat up zero lt = refl
  receiver_posts seat up (suc zero) lt = refl
  receiver_posts seat up (suc (suc zero)) lt = cond_same (receives p.shape seat) _ _ _ _ (λ e. complaints_are p (receiver_at p.shape seat)) refl
  receiver_posts seat up (suc (suc (suc zero))) lt = fourth_post seat (pairs_of p (receiver_at p.shape seat)) up
  receiver_posts seat up (suc (suc (suc (suc zero)))) lt = cond_same (receives p.shape seat) _ _ _ _ (λ e. votes_are p (receiver_at p.shape seat)) refl
  receiver_posts seat up (suc (suc (suc (suc (suc zero))))) lt =
      cond_same (receives p.shape seat) _ _ _ _ (λ e. syndromes_are p (receiver_at p.shape seat) _ (λ l i l5 a b. subshare_is p (receiver_at p.shape seat) l i l5 a b)) refl
  receiver_posts seat up (suc (suc (suc (suc (suc (suc n)))))) lt = absurd (omega (arith, lt))

  none_posted : (b : Bool) (x y : Post) → b ≡ false → cond b x Quiet ≡ cond b y Quiet
  none_posted true x y e = let no : true ≡ false = e in cc
  none_posted false x y e = refl

  dealing_posts : (seat : ℕ) → receives p.shape seat ≡ false → p.down seat ≡ false → (k : ℕ) → k < 6 → Posts seat k (dealing_stage p k)
  dealing_posts seat apart up zero lt = refl
  dealing_posts seat apart up (suc zero) lt = refl
  dealing_posts seat apart up (suc (suc zero)) lt = none_posted (receives p.shape seat) _ _ apart
  dealing_posts seat apart up (suc (suc (suc zero))) lt = fourth_post seat [] up
  dealing_posts seat apart up (suc (suc (suc (suc zero)))) lt = none_posted (receives p.shape seat) _ _ apart
  dealing_posts seat apart up (suc (suc (suc (suc (suc zero))))) lt = none_posted (receives p.shape seat) _ _ apart
  dealing_posts seat apart up (suc (suc (suc (suc (suc (suc n)))))) lt = absurd (omega (arith, lt))

  post_says : (seat : ℕ) (b : Bool) → receives p.shape seat ≡ b → seat ≤ seats p.shape → p.down seat ≡ false → (k : ℕ) → k < 6 → Posts seat k (stage_on_seat p seat k)
  post_says seat true e le up k lt = subst (Posts seat k) (sym (receiver_stage seat (receiver_on p.shape seat e) up k (omega (arith, lt)))) (receiver_posts seat up k lt)
  post_says seat false e le up k lt = subst (Posts seat k) (sym (dealing_is seat e le k (omega (arith, lt)))) (dealing_posts seat e up k lt)

  -- ---- ring messages
  abbrev Sends : ℕ → ℕ → ℕ → Stage → Type 0
  Sends seat to k stage = stage_ring p.shape seat (dealt_by_seat p seat) stage to ≡ ring_by p (suc k) seat to

  first_ring : (seat to : ℕ) → p.down seat ≡ false → Sends seat to 0 AtReady
  first_ring seat to up =
      cond_same (deals p.shape seat && (receives p.shape to && not (eqb seat to))) _ _ _ _
      (λ e.
      let d = (and_parts (deals p.shape seat) _ e).0 in
      let w = within_parts 1 seat p.shape.dealers d in
      dealt_are p seat (receiver_at p.shape to) _
      (λ l l5.
      let i : ℕ = instance_at seat l in
      let there : dealer_of i ≡ seat = omega (arith, w.0, l5) in
      ap (λ g. pair_on g (receiver_at p.shape to)) (own_at seat l d l5) ∙ sym (held_mine p i (receiver_at p.shape to) (ap p.down there ∙ up))))
      refl

  receiver_rings : (seat to : ℕ) → p.down seat ≡ false → (k : ℕ) → k < 6 → Sends seat to k (stage_in_play p (receiver_at p.shape seat) k)
  receiver_rings seat to up zero lt = first_ring seat to up
  receiver_rings seat to up (suc zero) lt =
      cond_same (receives p.shape seat && (receives p.shape to && not (eqb seat to))) _ _ _ _ (λ e. crossed_are p (receiver_at p.shape seat) (receiver_at p.shape to)) refl
  receiver_rings seat to up (suc (suc zero)) lt = refl
  receiver_rings seat to up (suc (suc (suc zero))) lt = refl
  receiver_rings seat to up (suc (suc (suc (suc zero)))) lt = refl
  receiver_rings seat to up (suc (suc (suc (suc (suc zero))))) lt = refl
  receiver_rings seat to up (suc (suc (suc (suc (suc (suc n)))))) lt = absurd (omega (arith, lt))

  none_sent : (b c : Bool) (x y : Ring) → b ≡ false → cond (b && c) x Nothing ≡ cond (b && c) y Nothing
  none_sent true c x y e = let no : true ≡ false = e in cc
  none_sent false c x y e = refl

  dealing_rings : (seat to : ℕ) → receives p.shape seat ≡ false → p.down seat ≡ false → (k : ℕ) → k < 6 → Sends seat to k (dealing_stage p k)
  dealing_rings seat to apart up zero lt = first_ring seat to up
  dealing_rings seat to apart up (suc zero) lt = none_sent (receives p.shape seat) _ _ _ apart
  dealing_rings seat to apart up (suc (suc zero)) lt = refl
  dealing_rings seat to apart up (suc (suc (suc zero))) lt = refl
  dealing_rings seat to apart up (suc (suc (suc (suc zero)))) lt = refl
  dealing_rings seat to apart up (suc (suc (suc (suc (suc zero))))) lt = refl
  dealing_rings seat to apart up (suc (suc (suc (suc (suc (suc n)))))) lt = absurd (omega (arith, lt))

  ring_says : (seat to : ℕ) (b : Bool) → receives p.shape seat ≡ b → seat ≤ seats p.shape → p.down seat ≡ false → (k : ℕ) → k < 6 → Sends seat to k (stage_on_seat p seat k)
  ring_says seat to true e le up k lt = subst (Sends seat to k) (sym (receiver_stage seat (receiver_on p.shape seat e) up k (omega (arith, lt)))) (receiver_rings seat to up k lt)
  ring_says seat to false e le up k lt = subst (Sends seat to k) (sym (dealing_is seat e le k (omega (arith, lt)))) (dealing_rings seat to e up k lt)

  -- ---- the word
  pub says_as_read : (seat k : ℕ) → 1 ≤ seat → seat ≤ seats p.shape → p.down seat ≡ false → k < 6 →
      Speak (mover_post p.shape seat (dealt_by_seat p seat) (stage_on_seat p seat k)) (rings_said p.shape seat (dealt_by_seat p seat) (stage_on_seat p seat k)) ≡ word_read p (suc k) seat
  says_as_read seat k from le up lt =
      ap₂ (λ (post : Post) (rings : List Ring). Speak post rings)
      (post_says seat (receives p.shape seat) refl le up k lt ∙ unless_up (p.down seat) (p.post (suc k) seat) (post_by_rules p (suc k) seat) up)
      (map_same _ (ring_heard p (suc k) seat) (seats p.shape) 1
      (λ to a b. ring_says seat to (receives p.shape seat) refl le up k lt ∙ unless_up (p.down seat) (p.ring (suc k) seat to) (ring_by p (suc k) seat to) up))
