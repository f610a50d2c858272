-- The first, the fourth and the fifth round.
use Rattle.std.proofs.Common.{◌≡◌, ℕ, ◌+◌, ◌-◌, ◌*◌, ◌<◌, ◌≤◌, Bool, true, false, cond, eqb, List, [], refl, sym, ap, ap₂, ◌∙◌, arith, get_or, leb}
use Rattle.std.proofs.lemmas.Bool.{cond-true}
use Rattle.algebra61.specs.Field.{Fp, Prime}
use Rattle.sharing61.specs.Rules.{Pair, pair_on, kept_of}
use Rattle.sharing61.specs.Instance.{Instance, held, held_from, shown, shown_from, vote, accepted, kept}
use Rattle.sharing61.specs.Agreement.{Deals}
use Rattle.sharing61.proofs.Count.{how_many_same}
use Rattle.sharing61.proofs.Agree.{short_held, short_shown}
use Rattle.talk.specs.declared.messages.Post.{Post}
use Rattle.talk.specs.declared.messages.Ring.{Ring}
use Rattle.talk.specs.Shape.{instances}
use Rattle.sizes.specs.Instances.{dealer_of, lane_of, instance_at}
use Rattle.plays.specs.Read.{dealt_in, shown_in, voted_in}
use Rattle.plays.specs.Play.{Play, instance_of, dealer_if, seat_of}
use Rattle.plays.specs.Said.{dealt_by, dealt_heard, reveals_by, reveals_heard, votes_by, votes_heard, unless_down}
use Rattle.plays.specs.Seat.{post_at, ring_at, pair_at, holds, heard_shown, heard_accepted, keeps}
use Rattle.plays.proofs.Bridge.{voted_own}
use Rattle.plays.proofs.Dealt.{dealt_read, reveal_read}

pub place_is : (i : ℕ) → instance_at (dealer_of i) (lane_of i) ≡ i
place_is i = omega arith

pub lane_below : (i : ℕ) → lane_of i < 5
lane_below i = omega arith

-- the degrees of all instances
abbrev pub AllDeal : Play → Type 0
AllDeal p = (i : ℕ) → Deals p.shape.degree (instance_of p i).dealer

dealt_own : (p : Play) (i j : ℕ) → p.shape.degree + 1 < Prime → AllDeal p → dealt_in p.shape.degree (lane_of i) (dealt_by p (dealer_of i) j) ≡ held (instance_of p i) j
unfolding dealt_by
dealt_own p i j small al =
    dealt_read p.shape.degree (λ l. held (instance_of p (instance_at (dealer_of i) l)) j) small (λ l. short_held p.shape.degree (instance_of p (instance_at (dealer_of i) l)) j (al (instance_at (dealer_of i) l))) (lane_of i) (lane_below i)
    ∙ ap (λ k. held (instance_of p k) j) (place_is i)

dealt_cases : (p : Play) (i j : ℕ) (b : Bool) → p.down (dealer_of i) ≡ b → p.shape.degree + 1 < Prime → AllDeal p →
    dealt_in p.shape.degree (lane_of i) (unless_down b (p.ring 1 (dealer_of i) (seat_of p.shape j)) (dealt_by p (dealer_of i) j)) ≡ held (instance_of p i) j
unfolding held instance_of
dealt_cases p i j true e small al = sym (ap (λ b. held_from (dealer_if b p i) j) e)
dealt_cases p i j false e small al = dealt_own p i j small al

pub held_mine : (p : Play) (i j : ℕ) → p.down (dealer_of i) ≡ false → held (instance_of p i) j ≡ pair_on (p.grid i) j
unfolding held instance_of
held_mine p i j e = ap (λ b. held_from (dealer_if b p i) j) e

holds_cases : (p : Play) (own : List (List (List Fp))) (rings : List Ring) (i j : ℕ) (b : Bool) → p.down (dealer_of i) ≡ p.down (dealer_of i) → p.shape.degree + 1 < Prime → AllDeal p →
    (b ≡ true → (p.down (dealer_of i) ≡ false) × (get_or own (lane_of i) [] ≡ p.grid i)) → (b ≡ false → ring_at rings (dealer_of i) ≡ dealt_heard p (dealer_of i) j) →
    cond b (pair_on (get_or own (lane_of i) []) j) (dealt_in p.shape.degree (lane_of i) (ring_at rings (dealer_of i))) ≡ held (instance_of p i) j
holds_cases p own rings i j true e small al mine heard = ap (λ g. pair_on g j) (mine refl).1 ∙ sym (held_mine p i j (mine refl).0)
holds_cases p own rings i j false e small al mine heard = ap (dealt_in p.shape.degree (lane_of i)) (heard refl) ∙ dealt_cases p i j (p.down (dealer_of i)) refl small al

pub holds_is : (p : Play) (own : List (List (List Fp))) (rings : List Ring) (i j : ℕ) → p.shape.degree + 1 < Prime → AllDeal p →
    (eqb (dealer_of i) (seat_of p.shape j) ≡ true → (p.down (dealer_of i) ≡ false) × (get_or own (lane_of i) [] ≡ p.grid i)) →
    (eqb (dealer_of i) (seat_of p.shape j) ≡ false → ring_at rings (dealer_of i) ≡ dealt_heard p (dealer_of i) j) →
    holds p.shape j own rings i ≡ held (instance_of p i) j
holds_is p own rings i j small al mine heard = holds_cases p own rings i j (eqb (dealer_of i) (seat_of p.shape j)) refl small al mine heard

-- ---- reveals
shown_own_read : (p : Play) (i j : ℕ) → p.shape.degree + 1 < Prime → AllDeal p → 1 ≤ j → j ≤ p.shape.receivers → shown_in (lane_of i) j (reveals_by p (dealer_of i)) ≡ shown (instance_of p i) j
unfolding reveals_by
shown_own_read p i j small al j1 jn =
    reveal_read p.shape.degree p.shape.receivers (λ l k. shown (instance_of p (instance_at (dealer_of i) l)) k) small
    (λ l k q e. short_shown p.shape.degree (instance_of p (instance_at (dealer_of i) l)) k q (al (instance_at (dealer_of i) l)) e) (lane_of i) j (lane_below i) j1 jn
    ∙ ap (λ k. shown (instance_of p k) j) (place_is i)

shown_cases : (p : Play) (i j : ℕ) (b : Bool) → p.down (dealer_of i) ≡ b → p.shape.degree + 1 < Prime → AllDeal p → 1 ≤ j → j ≤ p.shape.receivers →
    shown_in (lane_of i) j (unless_down b (p.post 4 (dealer_of i)) (reveals_by p (dealer_of i))) ≡ shown (instance_of p i) j
unfolding shown instance_of
shown_cases p i j true e small al j1 jn = sym (ap (λ b. shown_from (instance_of p i) (dealer_if b p i) j) e)
shown_cases p i j false e small al j1 jn = shown_own_read p i j small al j1 jn

pub heard_shown_is : (p : Play) (fourth : List Post) (i j : ℕ) → p.shape.degree + 1 < Prime → AllDeal p → 1 ≤ j → j ≤ p.shape.receivers → post_at fourth (dealer_of i) ≡ reveals_heard p (dealer_of i) →
    heard_shown fourth i j ≡ shown (instance_of p i) j
heard_shown_is p fourth i j small al j1 jn e = ap (shown_in (lane_of i) j) e ∙ shown_cases p i j (p.down (dealer_of i)) refl small al j1 jn

-- ---- votes
voted_cases : (p : Play) (i j : ℕ) (b : Bool) → p.down (seat_of p.shape j) ≡ b → i < instances p.shape → voted_in i (unless_down b (p.post 5 (seat_of p.shape j)) (votes_by p j)) ≡ vote (instance_of p i) j
unfolding vote instance_of
voted_cases p i j true e lt = sym (cond-true (p.down (seat_of p.shape j)) _ _ e)
voted_cases p i j false e lt = voted_own p j i lt

pub heard_accepted_is : (p : Play) (fifth : List Post) (i : ℕ) → i < instances p.shape → ((j : ℕ) → 1 ≤ j → j ≤ p.shape.receivers → post_at fifth (seat_of p.shape j) ≡ votes_heard p j) →
    heard_accepted p.shape fifth i ≡ accepted (instance_of p i)
unfolding accepted instance_of
heard_accepted_is p fifth i lt h =
    ap (leb (p.shape.receivers - p.shape.bound))
    (how_many_same p.shape.receivers _ (vote (instance_of p i)) (λ j a b. ap (voted_in i) (h j a b) ∙ voted_cases p i j (p.down (seat_of p.shape j)) refl lt))

kept_parts : (i : Instance) (j : ℕ) → kept i j ≡ kept_of (accepted i) (shown i j) (held i j)
unfolding kept
kept_parts i j = refl

pub keeps_is : (p : Play) (pairs : List Pair) (fourth fifth : List Post) (i j : ℕ) → heard_accepted p.shape fifth i ≡ accepted (instance_of p i) → heard_shown fourth i j ≡ shown (instance_of p i) j →
    pair_at pairs i ≡ held (instance_of p i) j → keeps p.shape j pairs fourth fifth i ≡ kept (instance_of p i) j
keeps_is p pairs fourth fifth i j ea es eh =
    ap (λ b. kept_of b (heard_shown fourth i j) (pair_at pairs i)) ea ∙ ap₂ (kept_of (accepted (instance_of p i))) es eh ∙ sym (kept_parts (instance_of p i) j)
