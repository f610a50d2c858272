-- An honest dealer's instance is accepted with its own grid.
use Rattle.std.proofs.Common.{◌≡◌, ℕ, ◌-◌, ◌≤◌, Bool, true, false, not, List, Option, Some, None, refl, sym, ap, ap₂, ◌∙◌, arith, is_none}
use Rattle.std.proofs.lemmas.Bool.{and_from, le-leb, cond-false, not-false, not_from_true, not-true}
use Rattle.algebra61.specs.Field.{Fp}
use Rattle.sharing61.specs.Count.{everyone, anyone, how_many}
use Rattle.sharing61.specs.Rules.{at_point, swapped, same_crossing, pair_on, crossing_on, unless_same, complaint_of, off_grid, shown_if, reveal_of, told_same, settled, fits, revealed_or}
use Rattle.sharing61.specs.declared.Crossing.{Crossing}
use Rattle.sharing61.specs.Instance.{Honest, Instance, held, held_from, crossing_pair, complaint, shown, shown_from, vote, accepted}
use Rattle.sharing61.specs.Agreement.{HonestDealer, Proper, HonestReceiver}
use Rattle.sharing61.proofs.Count.{everyone_from, anyone_at, anyone_not, how_many_not, how_many_more, same_crossing-true, same_crossing_from}
use Rattle.sharing61.proofs.Values.{at_pair_on}
use Rattle.sharing61.proofs.Votes.{vote_is}
use Rattle.sharing61.proofs.Agree.{kept_final}

pub held_own : (i : Instance) (g : List (List Fp)) (j : ℕ) → i.dealer ≡ Honest g → held i j ≡ pair_on g j
unfolding held
held_own i g j e = ap (λ dl. held_from dl j) e

pub shown_own : (i : Instance) (g : List (List Fp)) (j : ℕ) → i.dealer ≡ Honest g → shown i j ≡ reveal_of i.receivers g (complaint i j) j
unfolding shown
shown_own i g j e = ap (λ dl. shown_from i dl j) e

pub complaint_up : (i : Instance) (j k : ℕ) → i.down j ≡ false → complaint i j k ≡ complaint_of (at_point (held i j) k) (crossing_pair i k j)
unfolding complaint
complaint_up i j k up = cond-false (i.down j) _ _ up

-- a complaint tells the grid's values, where its maker holds them
off_unless : (g : List (List Fp)) (j k : ℕ) (b : Bool) (mine : Crossing) → mine ≡ crossing_on g j k → off_grid g j k (unless_same b mine) ≡ false
off_unless g j k true mine e = refl
off_unless g j k false mine e = not_from_true _ (same_crossing_from mine (crossing_on g j k) e)

off_own : (g : List (List Fp)) (j k : ℕ) (mine : Crossing) (o : Option Crossing) → mine ≡ crossing_on g j k → off_grid g j k (complaint_of mine o) ≡ false
off_own g j k mine None e = not_from_true _ (same_crossing_from mine (crossing_on g j k) e)
off_own g j k mine (Some theirs) e = off_unless g j k (same_crossing theirs (swapped mine)) mine e

pub hidden_own : (i : Instance) (g : List (List Fp)) (j : ℕ) → i.dealer ≡ Honest g → HonestReceiver i j → shown i j ≡ None
hidden_own i g j e s =
    shown_own i g j e
    ∙ ap (λ b. shown_if b (pair_on g j))
    (anyone_not i.receivers (λ k. off_grid g j k (complaint i j k))
    (λ k a b. ap (off_grid g j k) (complaint_up i j k s.up) ∙ off_own g j k _ _ (ap (λ p. at_point p k) (held_own i g j e) ∙ at_pair_on g j k)))

fits_if : (g : List (List Fp)) (j k : ℕ) (b : Bool) → fits j (pair_on g j) k (shown_if b (pair_on g k)) ≡ true
fits_if g j k true = same_crossing_from _ _ (at_pair_on g k j ∙ sym (ap swapped (at_pair_on g j k)))
fits_if g j k false = refl

told_if : (g : List (List Fp)) (k l : ℕ) (s t : Option Crossing) → off_grid g k l s ≡ false → off_grid g l k t ≡ false → told_same s t ≡ true
told_if g k l None t a b = refl
told_if g k l (Some s) None a b = refl
told_if g k l (Some s) (Some t) a b =
    same_crossing_from s (swapped t) (same_crossing-true s (crossing_on g k l) (not-false _ a) ∙ sym (ap swapped (same_crossing-true t (crossing_on g l k) (not-false _ b))))

settled_if : (g : List (List Fp)) (n k l : ℕ) (cs ct : ℕ → Option Crossing) → 1 ≤ k → k ≤ n → 1 ≤ l → l ≤ n → (b c : Bool) →
    anyone n (λ m. off_grid g k m (cs m)) ≡ b → anyone n (λ m. off_grid g l m (ct m)) ≡ c →
    settled (shown_if b (pair_on g k)) (shown_if c (pair_on g l)) (cs l) (ct k) ≡ true
settled_if g n k l cs ct k1 kn l1 ln true c eb ec = refl
settled_if g n k l cs ct k1 kn l1 ln false true eb ec = refl
settled_if g n k l cs ct k1 kn l1 ln false false eb ec =
    told_if g k l (cs l) (ct k) (anyone_at n (λ m. off_grid g k m (cs m)) eb l l1 ln) (anyone_at n (λ m. off_grid g l m (ct m)) ec k k1 kn)

pub yes_own : (i : Instance) (g : List (List Fp)) (j : ℕ) → i.dealer ≡ Honest g → HonestReceiver i j → vote i j ≡ true
yes_own i g j e s =
    let n : ℕ = i.receivers in
    vote_is i j s.up
    ∙ and_from (is_none (shown i j)) _ (ap is_none (hidden_own i g j e s))
    (and_from (everyone n (λ k. fits j (held i j) k (shown i k))) _
    (everyone_from n (λ k. fits j (held i j) k (shown i k))
    (λ k a b. ap₂ (λ p o. fits j p k o) (held_own i g j e) (shown_own i g k e) ∙ fits_if g j k (anyone n (λ m. off_grid g k m (complaint i k m)))))
    (everyone_from n (λ k. everyone n (λ l. settled (shown i k) (shown i l) (complaint i k l) (complaint i l k)))
    (λ k k1 kn. everyone_from n (λ l. settled (shown i k) (shown i l) (complaint i k l) (complaint i l k))
    (λ l l1 ln. ap₂ (λ o p. settled o p (complaint i k l) (complaint i l k)) (shown_own i g k e) (shown_own i g l e)
    ∙ settled_if g n k l (complaint i k) (complaint i l) k1 kn l1 ln _ _ refl refl))))

accepted_from : (i : Instance) → i.receivers - i.bound ≤ how_many i.receivers (vote i) → accepted i ≡ true
unfolding accepted
accepted_from i h = le-leb (i.receivers - i.bound) (how_many i.receivers (vote i)) h

pub accepted_own : (d : ℕ) (i : Instance) (g : List (List Fp)) → i.dealer ≡ Honest g → Proper d i → accepted i ≡ true
accepted_own d i g e p =
    accepted_from i
    (omega (
      arith,
      how_many_not i.receivers i.down,
      how_many_more i.receivers (λ k. not (i.down k)) (vote i) (λ k a b u. yes_own i g k e (record { from = a; to = b; up = not-true (i.down k) u })),
      p.few,
    ))

pub honest_dealer : (d : ℕ) → HonestDealer d
honest_dealer d i g e p =
    let acc : accepted i ≡ true = accepted_own d i g e p in
    record {
      accepted = acc;
      own = λ j s. kept_final i j acc ∙ ap (λ o. revealed_or o (held i j)) (hidden_own i g j e s) ∙ held_own i g j e;
      hidden = λ j s. hidden_own i g j e s;
      yes = λ j s. yes_own i g j e s;
    }
