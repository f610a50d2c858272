-- Plays that agree where it matters end alike.
use Rattle.std.proofs.Common.{◌≡◌, ℕ, ◌-◌, ◌<◌, ◌≤◌, Bool, true, false, leb, eqb, cond, List, Option, Some, refl, sym, ap, ap₂, ◌∙◌, subst, arith}
use Rattle.algebra61.specs.Field.{Fp, zeroₚ}
use Rattle.algebra61.specs.Poly.{eval}
use Rattle.checks61.proofs.Errors.{syndrome_same, check_same}
use Rattle.sharing61.specs.Rules.{Pair, at_point, pair_on, complaint_of, off_grid, shown_if, votes_yes, kept_of}
use Rattle.sharing61.specs.declared.Crossing.{Crossing}
use Rattle.sharing61.specs.Instance.{held, held_from, crossing_pair, complaint, shown, shown_from, vote, accepted, kept, share}
use Rattle.sharing61.proofs.Count.{anyone_same, how_many_same}
use Rattle.sizes.specs.Instances.{dealer_of, lane_of, instance_at}
use Rattle.talk.specs.declared.messages.Post.{Post}
use Rattle.talk.specs.declared.messages.Post.TheVariants.{Syndromes}
use Rattle.talk.specs.declared.messages.Ring.{Ring}
use Rattle.talk.specs.Shape.{Shape, Lawful, instances, seats, rounds}
use Rattle.plays.specs.Read.{dealt_in, crossed_in, listed_in, shown_in, voted_in}
use Rattle.plays.specs.Play.{Play, instance_of, dealer_if, seat_of}
use Rattle.plays.proofs.Proper.{dealers_seated}
use Rattle.plays.proofs.Bridge.{votes_same}
use Rattle.plays.proofs.Steps.{flat_same}
use Rattle.periods.specs.Move.{subshare, syndromes_by, syndromes_heard}
use Rattle.histories61.specs.Same.{Agree, EndAlike, AgreeEndAlike}
use Rattle.histories61.proofs.Lists.{cond_both, unless_given, unless_same}
use Rattle.plays.specs.Said.{unless_down}

-- the play with other seats down, other grids and other messages
abbrev with_other : Play → (ℕ → Bool) → (ℕ → List (List Fp)) → (ℕ → ℕ → Post) → (ℕ → ℕ → ℕ → Ring) → Play
with_other p down grid post ring = record p { down = down; grid = grid; post = post; ring = ring }

module _ (p : Play) (down : ℕ → Bool) (grid : ℕ → List (List Fp)) (post : ℕ → ℕ → Post) (ring : ℕ → ℕ → ℕ → Ring) (lw : Lawful p.shape) (ag : Agree p (with_other p down grid post ring)) where
  dealer_seat : (i : ℕ) → i < instances p.shape → dealer_of i ≤ seats p.shape
  dealer_seat i lt = omega (arith, lt, dealers_seated p.shape lw)

  -- every phase has five rounds
  five_rounds : (b : Bool) → 5 ≤ cond b 5 6
  five_rounds true = omega arith
  five_rounds false = omega arith

  five : 5 ≤ rounds p.shape
  five = five_rounds (eqb p.shape.checks 0)

  -- the same receivers are down
  receiver_down : (j : ℕ) → 1 ≤ j → j ≤ p.shape.receivers → down (seat_of p.shape j) ≡ p.down (seat_of p.shape j)
  receiver_down j a c = ag.down (seat_of p.shape j) (omega (arith, a)) (omega (arith, c))

  held_by : (i j : ℕ) (b : Bool) → p.down (dealer_of i) ≡ b → i < instances p.shape → 1 ≤ j → j ≤ p.shape.receivers → held_from (dealer_if b (with_other p down grid post ring) i) j ≡ held_from (dealer_if b p i) j
  held_by i j true e lt a c =
      ap (dealt_in p.shape.degree (lane_of i))
      (ag.rings 1 (dealer_of i) (seat_of p.shape j) (omega arith) (omega (arith, five)) (omega arith) (dealer_seat i lt) (omega (arith, a)) (omega (arith, c)) e)
  held_by i j false e lt a c = ap (λ g. pair_on g j) (ag.grids i lt e)

  held_same : (i j : ℕ) → i < instances p.shape → 1 ≤ j → j ≤ p.shape.receivers → held (instance_of (with_other p down grid post ring) i) j ≡ held (instance_of p i) j
  unfolding held instance_of
  held_same i j lt a c =
      ap (λ b. held_from (dealer_if b (with_other p down grid post ring) i) j) (ag.down (dealer_of i) (omega arith) (dealer_seat i lt))
      ∙ held_by i j (p.down (dealer_of i)) refl lt a c

  crossing_same : (i k j : ℕ) → i < instances p.shape → 1 ≤ k → k ≤ p.shape.receivers → 1 ≤ j → j ≤ p.shape.receivers →
      crossing_pair (instance_of (with_other p down grid post ring) i) k j ≡ crossing_pair (instance_of p i) k j
  unfolding crossing_pair instance_of
  crossing_same i k j lt k1 kn j1 jn =
      cond_both (down (seat_of p.shape k)) (p.down (seat_of p.shape k)) _ _ _ _ (receiver_down k k1 kn)
      (λ e. ap (crossed_in i) (ag.rings 2 (seat_of p.shape k) (seat_of p.shape j) (omega arith) (omega (arith, five)) (omega (arith, k1)) (omega (arith, kn)) (omega (arith, j1)) (omega (arith, jn)) e))
      (ap (λ (q : Pair). Some (at_point q j)) (held_same i k lt k1 kn))

  complaint_same : (i j k : ℕ) → i < instances p.shape → 1 ≤ j → j ≤ p.shape.receivers → 1 ≤ k → k ≤ p.shape.receivers →
      complaint (instance_of (with_other p down grid post ring) i) j k ≡ complaint (instance_of p i) j k
  unfolding complaint instance_of
  complaint_same i j k lt j1 jn k1 kn =
      cond_both (down (seat_of p.shape j)) (p.down (seat_of p.shape j)) _ _ _ _ (receiver_down j j1 jn)
      (λ e. ap (listed_in i k) (ag.posts 3 (seat_of p.shape j) (omega arith) (omega (arith, five)) (omega (arith, j1)) (omega (arith, jn)) e))
      (ap₂ (λ (q : Pair) (o : Option Crossing). complaint_of (at_point q k) o) (held_same i j lt j1 jn) (crossing_same i k j lt k1 kn j1 jn))

  shown_by : (i j : ℕ) (b : Bool) → p.down (dealer_of i) ≡ b → i < instances p.shape → 1 ≤ j → j ≤ p.shape.receivers →
      shown_from (instance_of (with_other p down grid post ring) i) (dealer_if b (with_other p down grid post ring) i) j ≡ shown_from (instance_of p i) (dealer_if b p i) j
  unfolding instance_of
  shown_by i j true e lt a c =
      ap (shown_in (lane_of i) j) (ag.posts 4 (dealer_of i) (omega arith) (omega (arith, five)) (omega arith) (dealer_seat i lt) e)
  shown_by i j false e lt a c =
      ap₂ shown_if
      (anyone_same p.shape.receivers _ _ (λ k k1 kn. ap₂ (λ g o. off_grid g j k o) (ag.grids i lt e) (complaint_same i j k lt a c k1 kn)))
      (ap (λ g. pair_on g j) (ag.grids i lt e))

  shown_same : (i j : ℕ) → i < instances p.shape → 1 ≤ j → j ≤ p.shape.receivers → shown (instance_of (with_other p down grid post ring) i) j ≡ shown (instance_of p i) j
  unfolding shown instance_of
  shown_same i j lt a c =
      ap (λ b. shown_from (instance_of (with_other p down grid post ring) i) (dealer_if b (with_other p down grid post ring) i) j)
      (ag.down (dealer_of i) (omega arith) (dealer_seat i lt))
      ∙ shown_by i j (p.down (dealer_of i)) refl lt a c

  vote_same : (i j : ℕ) → i < instances p.shape → 1 ≤ j → j ≤ p.shape.receivers → vote (instance_of (with_other p down grid post ring) i) j ≡ vote (instance_of p i) j
  unfolding vote instance_of
  vote_same i j lt a c =
      cond_both (down (seat_of p.shape j)) (p.down (seat_of p.shape j)) _ _ _ _ (receiver_down j a c)
      (λ e. ap (voted_in i) (ag.posts 5 (seat_of p.shape j) (omega arith) (omega (arith, five)) (omega (arith, a)) (omega (arith, c)) e))
      (votes_same p.shape.receivers _ (complaint (instance_of p i)) _ (shown (instance_of p i)) j (held (instance_of (with_other p down grid post ring) i) j) a c
      (λ k l k1 kn l1 ln. complaint_same i k l lt k1 kn l1 ln) (λ k k1 kn. shown_same i k lt k1 kn)
      ∙ ap (votes_yes p.shape.receivers (complaint (instance_of p i)) (shown (instance_of p i)) j) (held_same i j lt a c))

  accepted_same : (i : ℕ) → i < instances p.shape → accepted (instance_of (with_other p down grid post ring) i) ≡ accepted (instance_of p i)
  unfolding accepted instance_of
  accepted_same i lt = ap (leb (p.shape.receivers - p.shape.bound)) (how_many_same p.shape.receivers _ _ (λ j a c. vote_same i j lt a c))

  kept_same : (i j : ℕ) → i < instances p.shape → 1 ≤ j → j ≤ p.shape.receivers → kept (instance_of (with_other p down grid post ring) i) j ≡ kept (instance_of p i) j
  unfolding kept
  kept_same i j lt a c =
      ap (λ b. kept_of b (shown (instance_of (with_other p down grid post ring) i) j) (held (instance_of (with_other p down grid post ring) i) j)) (accepted_same i lt)
      ∙ ap₂ (kept_of (accepted (instance_of p i))) (shown_same i j lt a c) (held_same i j lt a c)

  share_same : (i j : ℕ) → i < instances p.shape → 1 ≤ j → j ≤ p.shape.receivers → share (instance_of (with_other p down grid post ring) i) j ≡ share (instance_of p i) j
  share_same i j lt a c = ap (λ (q : Pair). eval q.row.coeffs zeroₚ) (kept_same i j lt a c)

  -- the sixth round
  syndromes_same : (j : ℕ) → 1 ≤ j → j ≤ p.shape.receivers → syndromes_by (with_other p down grid post ring) j ≡ syndromes_by p j
  unfolding syndromes_by
  syndromes_same j a c =
      ap Syndromes
      (flat_same _ _ 5 0
      (λ l l0 l5. syndrome_same p.shape.dealers p.shape.checks (λ i. subshare (with_other p down grid post ring) l i j) (λ i. subshare p l i j)
      (λ m lt. check_same p.shape.dealers m (λ i. subshare (with_other p down grid post ring) l i j) (λ i. subshare p l i j)
      (λ i i1 im. share_same (instance_at i l) j (omega (arith, i1, im, l5)) a c))))

  sixth_same : rounds p.shape ≡ 6 → (j : ℕ) → 1 ≤ j → j ≤ p.shape.receivers → syndromes_heard (with_other p down grid post ring) j ≡ syndromes_heard p j
  sixth_same six j a c =
      ap (λ b. unless_down b (post 6 (seat_of p.shape j)) (syndromes_by (with_other p down grid post ring) j)) (receiver_down j a c)
      ∙ unless_given (p.down (seat_of p.shape j)) _ _ _ (λ e. ag.posts 6 (seat_of p.shape j) (omega arith) (omega (arith, six)) (omega (arith, a)) (omega (arith, c)) e)
      ∙ unless_same (p.down (seat_of p.shape j)) _ _ _ (λ up. syndromes_same j a c)

  alike : EndAlike p (with_other p down grid post ring)
  alike = record { accepts = accepted_same; shares = share_same; sixth = sixth_same }

-- a play of the same setting differs in who is down, in grids and in messages alone
other_is : (p q : Play) → q.shape ≡ p.shape → q ≡ with_other p q.down q.grid q.post q.ring
other_is p q es = ap (λ (s : Shape). let x : Play = record { shape = s; down = q.down; grid = q.grid; post = q.post; ring = q.ring } in x) es

pub agree_end_alike : AgreeEndAlike
agree_end_alike p q lw ag =
    let e : q ≡ with_other p q.down q.grid q.post q.ring = other_is p q ag.setting in
    subst (EndAlike p) (sym e) (alike p q.down q.grid q.post q.ring lw (subst (Agree p) e ag))
