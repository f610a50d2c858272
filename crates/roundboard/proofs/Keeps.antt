-- Each step keeps the rule.
use Rattle.std.proofs.Common.{◌≡◌, ◌≢◌, ℕ, zero, suc, ◌+◌, ◌*◌, ◌^◌, ◌<◌, ◌≤◌, ◌⊎◌, List, [], ◌∷◌, ◌++◌, length, get_or, set, sym, refl, ap, ◌∙◌, subst, inl, inr, ⊎_elim, arith, length-set, get_or-set_other, get_or-set_same}
use Rattle.std.specs.Int.{bit_at}
use Rattle.std.specs.Int.RustNames.{bit_or}
use Rattle.std.proofs.lemmas.Nat.Bits.{bit_at-lt, bit_at-zero}
use native.Mathlib.Decide.{ℕ_discrete}
use mathlib.Core.Logic.{dite}
use mathlib.Core.Option.{Option, none, some, some-injective, some-ne-none}
use lib.ListN.{get_elem?}
use lib.Seq.{set-get_or}
use Rattle.atomic_table.specs.Table.{State, step, keeps, Allows, Splits, Joins}
use Rattle.atomic_table.proofs.Lists.{at_set, set_else}
use Rattle.roundboard.specs.declared.view.View.{View}
use Rattle.roundboard.specs.declared.view.Event.{Event}
use Rattle.roundboard.specs.declared.view.Deed.{Deed}
use Rattle.roundboard.specs.declared.view.Deed.TheVariants.{Posted, Passed, Closed, Lost, Published, Looked, Aborted, SawControl, Cut}
use Rattle.roundboard.specs.Rule.{In, arrivals_of, frozen_of, frozen_word, event, with_event, Did, Sits, Has, IsFull, RoundKept, ControlKept, Left, Showed, HasShown, Licence, IsInOrder, opened, given_out, entered, both_of, spent}
use Rattle.roundboard.specs.Plays.{Sat, posted, passed, cut, closed, published, looked, aborted, controlled}
use Rattle.roundboard.proofs.Views.{at_keep, at_new, did_keep, In-left, In-right, In-back, did_back, has_keep, has_new, has_back, sits_keep, sits_back, at_snoc_place, split_keep, split_back, join_from, join_to, join_over}
use Rattle.roundboard.proofs.BitLemmas.{one_place, set_again, IsFull-part}
use Rattle.roundboard.proofs.RoundSteps.{same_round, after_post, after_pass, after_cut, after_close, after_lost, after_publish, after_look, left_part, same_control, after_abort, after_control}

abbrev St : Type 0
St = State (Unit {0}) View

abbrev word : St → ℕ → ℕ
word s i = get_or s.words i 0

abbrev event_of_round : Event → ℕ
event_of_round e = e.round

-- one more deed at a view leaves what other deeds showed
arrived_keep : (n : ℕ) (vs : List View) (i : ℕ) (v : View) → get_elem? vs i ≡ some v → (r : ℕ) (d : Deed) (j q : ℕ) → HasShown vs n j q → HasShown (set vs i (with_event r d v)) n j q
arrived_keep n vs i v here r d j q h = at_keep vs i v (with_event r d v) here (Showed n (event q)) (λ t. (t.0, t.1, inr t.2, t.3, t.4)) j h

showed_new : (n : ℕ) (vs : List View) (i : ℕ) (v : View) → get_elem? vs i ≡ some v → (r : ℕ) (d : Deed) → Showed n (event r) v → HasShown (set vs i (with_event r d v)) n i r
showed_new n vs i v here r d t = at_new vs i v (with_event r d v) here (Showed n (event r)) (t.0, t.1, inr t.2, t.3, t.4)

-- the licence of a deed by which nobody arrives, closes or publishes
never_closes : (n r : ℕ) (v : View) (d : Deed) → ((k w : ℕ) → (d ≡ Posted k w) ⊎ (d ≡ Passed k w) → ⊥) → ((m w : ℕ) → ¬ (d ≡ Cut m w)) → ((c : ℕ) → ¬ (d ≡ Closed c)) → ((c : ℕ) → ¬ (d ≡ Published c)) → Licence n r v d
never_closes n r v d quiet uncut open_ unpublished = record { sits = λ k w e. absurd (quiet k w e); cuts = λ m w e. absurd (uncut m w e); arrived = λ c e. absurd (open_ c e); closed = λ c e. absurd (unpublished c e) }

-- a deed in the round r, which changes one of its words, at a view that may do the deed
deed : (n rounds : ℕ) (s : St) (o : IsInOrder n rounds s) (i : ℕ) (v : View) → get_elem? s.views i ≡ some v → (r : ℕ) → r < rounds → (d : Deed) (at x : ℕ)
    → ((q : ℕ) → q ≢ r → (arrivals_of q ≢ at) × (frozen_of q ≢ at)) → 0 ≢ at
    → Licence n r v d → ((c e : ℕ) → d ≡ Closed c → Has s.views r (Closed e) → ⊥)
    → (((y : Deed) → Has s.views r y → Has (set s.views i (with_event r d v)) r y) → ((y : Deed) → Has (set s.views i (with_event r d v)) r y → Has s.views r y ⊎ (d ≡ y))
    → RoundKept n (get_or (set s.words at x) (arrivals_of r) 0) (get_or (set s.words at x) (frozen_of r) 0) (Has (set s.views i (with_event r d v)) r))
    → IsInOrder n rounds record { words = set s.words at x; homes = s.homes; views = set s.views i (with_event r d v) }
deed n rounds s o i v here r inside d at x apart off licence first round =
    let sits = licence.sits in
    let vs : List View = s.views in let vs' : List View = set vs i (with_event r d v) in
    let keep : (q : ℕ) (y : Deed) → Has vs q y → Has vs' q y = has_keep vs i v here r d in
    let back : (q : ℕ) (y : Deed) → Has vs' q y → Has vs q y ⊎ (event r d ≡ event q y) = has_back vs i v here r d in
    record {
      long = length-set s.words at x ∙ o.long;
      each_round = λ q near. dite (ℕ_discrete q r)
          (λ e. subst (λ (z : ℕ). RoundKept n (get_or (set s.words at x) (arrivals_of z) 0) (get_or (set s.words at x) (frozen_of z) 0) (Has vs' z)) (sym e)
          (round (keep r) (λ y h. ⊎_elim (λ (t : Has vs r y). inl t) (λ (t : event r d ≡ event r y). inr (ap (λ (z : Event). z.deed) t)) (back r y h))))
          (λ ne. subst (λ (z : ℕ × ℕ). RoundKept n z.0 z.1 (Has vs' q)) (λ z. (sym (get_or-set_other s.words at (arrivals_of q) x 0 (apart q ne).0) z, sym (get_or-set_other s.words at (frozen_of q) x 0 (apart q ne).1) z))
          (same_round n (word s (arrivals_of q)) (word s (frozen_of q)) (Has vs q) (Has vs' q) (keep q)
          (λ y h. ⊎_elim (λ (t : Has vs q y). t) (λ (t : event r d ≡ event q y). absurd (ne (sym (ap event_of_round t)))) (back q y h)) (o.each_round q near)));
      control = subst (λ (z : ℕ). ControlKept z (Has vs' 8)) (sym (get_or-set_other s.words at 0 x 0 off))
          (same_control (word s 0) (Has vs 8) (Has vs' 8) (keep 8) (λ y h. ⊎_elim (λ (t : Has vs 8 y). t) (λ (t : event r d ≡ event 8 y). absurd (let z : r ≡ 8 = ap event_of_round t in let few = o.few in omega arith)) (back 8 y h)) o.control);
      few = o.few;
      single = λ j l k a b. o.single j l k (sits_back vs i v here r d j k a) (sits_back vs i v here r d l k b);
      licensed = λ j q c h. ⊎_elim (λ (t : Did vs j q (Closed c)). arrived_keep n vs i v here r d j q (o.licensed j q c t))
          (λ (t : (j ≡ i) × (event r d ≡ event q (Closed c))). let e : r ≡ q = ap event_of_round t.1 in
          subst (λ (z : ℕ × ℕ). HasShown vs' n z.0 z.1) (λ z. (sym t.0 z, e z)) (showed_new n vs i v here r d (licence.arrived c (ap (λ (z : Event). z.deed) t.1)))) (did_back vs i v here r d j q (Closed c) h);
      publisher = λ j q c h. did_keep vs i v here r d j q (Closed c) (⊎_elim (λ (t : Did vs j q (Published c)). o.publisher j q c t)
          (λ (t : (j ≡ i) × (event r d ≡ event q (Published c))). let e : r ≡ q = ap event_of_round t.1 in
          (v, subst (λ (z : ℕ). get_elem? vs z ≡ some v) (sym t.0) here, subst (λ (z : ℕ). In (event z (Closed c)) v.events) e (licence.closed c (ap (λ (z : Event). z.deed) t.1)))) (did_back vs i v here r d j q (Published c) h));
      alone = λ j l q c e a b. ⊎_elim
          (λ (t : Did vs j q (Closed c)). ⊎_elim (λ (u : Did vs l q (Closed e)). o.alone j l q c e t u)
          (λ (u : (l ≡ i) × (event r d ≡ event q (Closed e))). absurd (first e c (ap (λ (z : Event). z.deed) u.1) (j, subst (λ (z : ℕ). Did vs j z (Closed c)) (sym (ap event_of_round u.1)) t))) (did_back vs i v here r d l q (Closed e) b))
          (λ (t : (j ≡ i) × (event r d ≡ event q (Closed c))). ⊎_elim (λ (u : Did vs l q (Closed e)). absurd (first c e (ap (λ (z : Event). z.deed) t.1) (l, subst (λ (z : ℕ). Did vs l z (Closed e)) (sym (ap event_of_round t.1)) u)))
          (λ (u : (l ≡ i) × (event r d ≡ event q (Closed e))). t.0 ∙ sym u.0) (did_back vs i v here r d l q (Closed e) b)) (did_back vs i v here r d j q (Closed c) a);
      own = λ j q k w h. sits_keep vs i v here r d j (k + 1) (⊎_elim
          (λ (z : Did vs' j q (Posted k w)). ⊎_elim (λ (t : Did vs j q (Posted k w)). o.own j q k w (inl t))
          (λ (t : (j ≡ i) × (event r d ≡ event q (Posted k w))). (v, subst (λ (z : ℕ). get_elem? vs z ≡ some v) (sym t.0) here, sits k w (inl (ap (λ (z : Event). z.deed) t.1)))) (did_back vs i v here r d j q (Posted k w) z))
          (λ (z : Did vs' j q (Passed k w)). ⊎_elim (λ (t : Did vs j q (Passed k w)). o.own j q k w (inr t))
          (λ (t : (j ≡ i) × (event r d ≡ event q (Passed k w))). (v, subst (λ (z : ℕ). get_elem? vs z ≡ some v) (sym t.0) here, sits k w (inr (ap (λ (z : Event). z.deed) t.1)))) (did_back vs i v here r d j q (Passed k w) z)) h);
      warden = λ j q m w h. sits_keep vs i v here r d j (n + 1) (⊎_elim (λ (t : Did vs j q (Cut m w)). o.warden j q m w t)
          (λ (t : (j ≡ i) × (event r d ≡ event q (Cut m w))). (v, subst (λ (z : ℕ). get_elem? vs z ≡ some v) (sym t.0) here, licence.cuts m w (ap (λ (z : Event). z.deed) t.1))) (did_back vs i v here r d j q (Cut m w) h));
      numbered = λ j k u is zero_ l b. ⊎_elim (λ (t : (j ≡ i) × (with_event r d v ≡ u)). subst (λ (z : View). k < z.given) t.1
          (o.numbered i k v here (subst (λ (z : View). In 0 z.numbers) (sym t.1) zero_) l (sits_back vs i v here r d l k b)))
          (λ (t : (j ≢ i) × (get_elem? vs j ≡ some u)). o.numbered j k u t.1 zero_ l (sits_back vs i v here r d l k b)) (at_set vs i j (with_event r d v) u is);
    }

-- the views are as they were, and so are the words
stays : (n rounds : ℕ) (s : St) (o : IsInOrder n rounds s) (i j : ℕ) (v : View) (x : ℕ) → get_elem? s.views j ≡ some v → x ≡ word s i → IsInOrder n rounds record { words = set s.words i x; homes = s.homes; views = set s.views j v }
stays n rounds s o i j v x here is =
    subst (λ (z : List ℕ × List View). IsInOrder n rounds record { words = z.0; homes = s.homes; views = z.1 })
    (λ k. ((sym (set-get_or s.words i 0) ∙ ap (λ (y : ℕ). set s.words i y) (sym is)) k, sym (Rattle.atomic_table.proofs.Lists.set_again s.views j v here) k)) o

-- a place that finds the word closed and had not posted finds its passed bit
late_bit : (n rounds : ℕ) (s : St) (o : IsInOrder n rounds s) (r k : ℕ) → n ≤ 30 → r < rounds → k < n → ((w : ℕ) → Has s.views r (Posted k w) → ⊥)
    → bit_at (word s (arrivals_of r)) 63 ≡ 1 → bit_at (word s (arrivals_of r)) (30 + k) ≡ 1
late_bit n rounds s o r k few inside place never late =
    let a : ℕ = word s (arrivals_of r) in let round = o.each_round r inside in
    let c = round.closed late in let t = round.closes c.0 c.1 in let full = t.2 k place in let x = t.3 k in let y = t.3 (30 + k) in
    let free : bit_at a k ≡ 0 = dite (ℕ_discrete (bit_at a k) 1) (λ e. absurd (never (round.posted k (omega arith) e).0 (round.posted k (omega arith) e).1)) (λ ne. let b = bit_at-lt a k in omega arith) in
    let b = bit_at-lt a (30 + k) in omega arith

pub posts : (n rounds slots id : ℕ) (m : Sat) (r k : ℕ) → n ≤ 30 → r < rounds → k < n → In (k + 1) m.0.numbers → ((w : ℕ) → ¬ (In (event r (Posted k w)) m.0.events))
    → Allows (IsInOrder n rounds) slots id m (arrivals_of r) (λ a. bit_or a (2 ^ k)) (posted (step slots (arrivals_of r) (2 ^ k) 0 none) m)
posts n rounds slots id m r k few inside place sits none_yet s o wide here _ =
    let a : ℕ = word s (arrivals_of r) in let long = o.long in
    let never : (w : ℕ) → Has s.views r (Posted k w) → ⊥ = λ w h. let e : h.0 ≡ id = o.single h.0 id (k + 1) (o.own h.0 r k w (inl h.1)) (m.0, here, sits) in
    none_yet w (subst (λ (u : View). In (event r (Posted k w)) u.events) (some-injective h.1.0 m.0 (sym h.1.1 ∙ (ap (λ (j : ℕ). get_elem? s.views j) e ∙ here))) h.1.2) in (
      with_event r (Posted k a) m.0,
      keeps,
      tt,
      deed n rounds s o id m.0 here r inside (Posted k a) (arrivals_of r) (bit_or a (2 ^ k)) (λ q ne. ((λ e. ne (omega arith)), (λ e. omega arith))) (λ e. omega arith)
          record {
            sits = λ j w e. ⊎_elim (λ (y : Posted k a ≡ Posted j w). let t : k ≡ j = cc in subst (λ (z : ℕ). In (z + 1) m.0.numbers) t sits) (λ (y : Posted k a ≡ Passed j w). absurd cc) e;
            cuts = λ x w e. absurd cc;
            arrived = λ c e. absurd cc;
            closed = λ c e. absurd cc;
          }
          (λ c e is h. absurd cc)
          (λ keep back. subst (λ (z : ℕ × ℕ). RoundKept n z.0 z.1 (Has (set s.views id (with_event r (Posted k a) m.0)) r))
          (λ z. (sym (get_or-set_same s.words (arrivals_of r) (bit_or a (2 ^ k)) 0 (omega arith)) z, sym (get_or-set_other s.words (arrivals_of r) (frozen_of r) (bit_or a (2 ^ k)) 0 (λ e. omega arith)) z))
          (after_post n a (word s (frozen_of r)) (Has s.views r) (Has (set s.views id (with_event r (Posted k a) m.0)) r) (o.each_round r inside) keep k place few never back (has_new s.views id m.0 here r (Posted k a)))),
      λ q j e p. let x : r ≡ q = omega arith in let y : k ≡ j = one_place k j p in (
        (λ z. (with_event (x z) (Posted (y z) a) m.0, m.1)),
        (λ late. subst (λ (z : ℕ). bit_at a (30 + z) ≡ 1) y (late_bit n rounds s o r k few inside place never late)),
      ),
    )

pub passes : (n rounds slots id : ℕ) (m : Sat) (r k : ℕ) → n ≤ 30 → r < rounds → k < n → In (k + 1) m.0.numbers
    → Allows (IsInOrder n rounds) slots id m (arrivals_of r) (λ a. bit_or a (2 ^ (30 + k))) (passed (step slots (arrivals_of r) (2 ^ (30 + k)) 0 none) m)
passes n rounds slots id m r k few inside place sits s o wide here _ =
    let a : ℕ = word s (arrivals_of r) in let long = o.long in let x : ℕ = bit_or a (2 ^ (30 + k)) in (
      with_event r (Passed k a) m.0,
      keeps,
      tt,
      deed n rounds s o id m.0 here r inside (Passed k a) (arrivals_of r) x (λ q ne. ((λ e. ne (omega arith)), (λ e. omega arith))) (λ e. omega arith)
          record {
            sits = λ j w e. ⊎_elim (λ (y : Passed k a ≡ Posted j w). absurd cc) (λ (y : Passed k a ≡ Passed j w). let t : k ≡ j = cc in subst (λ (z : ℕ). In (z + 1) m.0.numbers) t sits) e;
            cuts = λ x w e. absurd cc;
            arrived = λ c e. absurd cc;
            closed = λ c e. absurd cc;
          }
          (λ c e is h. absurd cc)
          (λ keep back. subst (λ (z : ℕ × ℕ). RoundKept n z.0 z.1 (Has (set s.views id (with_event r (Passed k a) m.0)) r))
          (λ z. (sym (get_or-set_same s.words (arrivals_of r) x 0 (omega arith)) z, sym (get_or-set_other s.words (arrivals_of r) (frozen_of r) x 0 (λ e. omega arith)) z))
          (after_pass n a (word s (frozen_of r)) (Has s.views r) (Has (set s.views id (with_event r (Passed k a) m.0)) r) (o.each_round r inside) keep k place few back (has_new s.views id m.0 here r (Passed k a)))),
      λ q j e p. let t : r ≡ q = omega arith in let u : 30 + k ≡ 30 + j = one_place (30 + k) (30 + j) p in let y : k ≡ j = omega arith in λ z. (with_event (t z) (Passed (y z) a) m.0, m.1),
    )

pub cuts : (n rounds slots id : ℕ) (m : Sat) (r seats : ℕ) → n ≤ 30 → r < rounds → seats < 2 ^ n → seats < 2 ^ 30 → In (n + 1) m.0.numbers
    → Allows (IsInOrder n rounds) slots id m (arrivals_of r) (λ a. bit_or a (seats * 2 ^ 30)) (cut (step slots (arrivals_of r) (seats * 2 ^ 30) 0 none) m)
cuts n rounds slots id m r seats few inside of_seats low sits s o wide here _ =
    let a : ℕ = word s (arrivals_of r) in let long = o.long in let x : ℕ = bit_or a (seats * 2 ^ 30) in (
      with_event r (Cut seats a) m.0,
      keeps,
      tt,
      deed n rounds s o id m.0 here r inside (Cut seats a) (arrivals_of r) x (λ q ne. ((λ e. ne (omega arith)), (λ e. omega arith))) (λ e. omega arith)
          record {
            sits = λ j w e. ⊎_elim (λ (y : Cut seats a ≡ Posted j w). absurd cc) (λ (y : Cut seats a ≡ Passed j w). absurd cc) e;
            cuts = λ j w e. sits;
            arrived = λ c e. absurd cc;
            closed = λ c e. absurd cc;
          }
          (λ c e is h. absurd cc)
          (λ keep back. subst (λ (z : ℕ × ℕ). RoundKept n z.0 z.1 (Has (set s.views id (with_event r (Cut seats a) m.0)) r))
          (λ z. (sym (get_or-set_same s.words (arrivals_of r) x 0 (omega arith)) z, sym (get_or-set_other s.words (arrivals_of r) (frozen_of r) x 0 (λ e. omega arith)) z))
          (after_cut n a (word s (frozen_of r)) (Has s.views r) (Has (set s.views id (with_event r (Cut seats a) m.0)) r) (o.each_round r inside) keep seats of_seats low few back (has_new s.views id m.0 here r (Cut seats a)))),
      λ q j e p. let t : r ≡ q = omega arith in let y : seats ≡ j = omega arith in λ z. (with_event (t z) (Cut (y z) a) m.0, m.1),
    )

-- what the round of a view's own deed says
has_own : (s : St) (id : ℕ) (v : View) (r : ℕ) (d : Deed) → get_elem? s.views id ≡ some v → In (event r d) v.events → Has s.views r d
has_own s id v r d here h = (id, (v, here, h))

pub closes : (n rounds slots id : ℕ) (m : Sat) (r : ℕ) (d : Deed) (left : ℕ) → n ≤ 30 → r < rounds → In (event r d) m.0.events → Left d left → IsFull n left
    → Allows (IsInOrder n rounds) slots id m (arrivals_of r) (λ a. bit_or a (2 ^ 63)) (closed (step slots (arrivals_of r) (2 ^ 63) 0 none) m)
closes n rounds slots id m r d left few inside mine is_left full s o wide here _ =
    let a : ℕ = word s (arrivals_of r) in let long = o.long in let round = o.each_round r inside in
    let full_now : IsFull n a = IsFull-part n left a full (left_part n a (word s (frozen_of r)) (Has s.views r) round d left (has_own s id m.0 r d here mine) is_left) in
    dite (ℕ_discrete (bit_at a 63) 0)
    (λ unset. (
      with_event r (Closed a) m.0,
      keeps,
      tt,
      deed n rounds s o id m.0 here r inside (Closed a) (arrivals_of r) (bit_or a (2 ^ 63)) (λ q ne. ((λ e. ne (omega arith)), (λ e. omega arith))) (λ e. omega arith)
          record { sits = λ j x e. ⊎_elim (λ y. absurd cc) (λ y. absurd cc) e; cuts = λ x w e. absurd cc; arrived = λ c e. (d, left, mine, is_left, full); closed = λ c e. absurd cc }
          (λ c e is h. let t = round.closes e h in let z = t.0 in omega arith)
          (λ keep back. subst (λ (z : ℕ × ℕ). RoundKept n z.0 z.1 (Has (set s.views id (with_event r (Closed a) m.0)) r))
          (λ z. (sym (get_or-set_same s.words (arrivals_of r) (bit_or a (2 ^ 63)) 0 (omega arith)) z, sym (get_or-set_other s.words (arrivals_of r) (frozen_of r) (bit_or a (2 ^ 63)) 0 (λ e. omega arith)) z))
          (after_close n a (word s (frozen_of r)) (Has s.views r) (Has (set s.views id (with_event r (Closed a) m.0)) r) round keep few unset full_now back (has_new s.views id m.0 here r (Closed a)))),
      λ q e. let x : r ≡ q = omega arith in ((λ _ z. (with_event (x z) (Closed a) m.0, m.1)), (λ is. absurd (omega arith))),
    ))
    (λ ne. let is : bit_at a 63 ≡ 1 = let b = bit_at-lt a 63 in omega arith in (
      with_event r (Lost a) m.0,
      keeps,
      tt,
      deed n rounds s o id m.0 here r inside (Lost a) (arrivals_of r) (bit_or a (2 ^ 63)) (λ q ne. ((λ e. ne (omega arith)), (λ e. omega arith))) (λ e. omega arith)
          (never_closes n r m.0 (Lost a) (λ k w e. ⊎_elim (λ y. absurd cc) (λ y. absurd cc) e) (λ x w e. absurd cc) (λ c e. absurd cc) (λ c e. absurd cc))
          (λ c e is h. absurd cc)
          (λ keep back. subst (λ (z : ℕ × ℕ). RoundKept n z.0 z.1 (Has (set s.views id (with_event r (Lost a) m.0)) r))
          (λ z. ((sym (set_again a 63 is) ∙ sym (get_or-set_same s.words (arrivals_of r) (bit_or a (2 ^ 63)) 0 (omega arith))) z, sym (get_or-set_other s.words (arrivals_of r) (frozen_of r) (bit_or a (2 ^ 63)) 0 (λ e. omega arith)) z))
          (after_lost n a (word s (frozen_of r)) (Has s.views r) (Has (set s.views id (with_event r (Lost a) m.0)) r) round keep a back)),
      λ q e. let x : r ≡ q = omega arith in ((λ unset. absurd (ne unset)), (λ _ z. (with_event (x z) (Lost a) m.0, m.1))),
    ))

pub publishes : (n rounds slots id : ℕ) (m : Sat) (r c x : ℕ) → r < rounds → In (event r (Closed c)) m.0.events → x ≡ frozen_word c
    → Allows (IsInOrder n rounds) slots id m (frozen_of r) (λ f. bit_or f x) (published (step slots (frozen_of r) x 0 none) m)
publishes n rounds slots id m r c x inside mine is s o wide here _ =
    let f : ℕ = word s (frozen_of r) in let long = o.long in let round = o.each_round r inside in let by = has_own s id m.0 r (Closed c) here mine in (
      with_event r (Published c) m.0,
      keeps,
      tt,
      deed n rounds s o id m.0 here r inside (Published c) (frozen_of r) (bit_or f x) (λ q ne. ((λ e. omega arith), (λ e. ne (omega arith)))) (λ e. omega arith)
          record { sits = λ j y e. ⊎_elim (λ z. absurd cc) (λ z. absurd cc) e; cuts = λ x w e. absurd cc; arrived = λ d e. absurd cc; closed = λ d e. let t : c ≡ d = cc in subst (λ (y : ℕ). In (event r (Closed y)) m.0.events) t mine }
          (λ d e is h. absurd cc)
          (λ keep back. subst (λ (z : ℕ × ℕ). RoundKept n z.0 z.1 (Has (set s.views id (with_event r (Published c) m.0)) r))
          (λ z. (sym (get_or-set_other s.words (frozen_of r) (arrivals_of r) (bit_or f x) 0 (λ e. omega arith)) z, (ap (λ (y : ℕ). bit_or f y) (sym is) ∙ sym (get_or-set_same s.words (frozen_of r) (bit_or f x) 0 (omega arith))) z))
          (after_publish n (word s (arrivals_of r)) f (Has s.views r) (Has (set s.views id (with_event r (Published c) m.0)) r) round keep c by back (has_new s.views id m.0 here r (Published c)))),
      λ q d e own. let y : r ≡ q = omega arith in let z : c ≡ d = round.once c d by (has_own s id m.0 r (Closed d) here (subst (λ (t : ℕ). In (event t (Closed d)) m.0.events) (sym y) own)) in λ t. (with_event (y t) (Published (z t)) m.0, m.1),
    )

pub looks : (n rounds slots id : ℕ) (m : Sat) (r : ℕ) → r < rounds → Allows (IsInOrder n rounds) slots id m (frozen_of r) (λ f. f) (looked (step slots (frozen_of r) 0 0 none) m)
looks n rounds slots id m r inside s o wide here _ =
    let f : ℕ = word s (frozen_of r) in let long = o.long in let round = o.each_round r inside in (
      with_event r (Looked f) m.0,
      keeps,
      tt,
      deed n rounds s o id m.0 here r inside (Looked f) (frozen_of r) f (λ q ne. ((λ e. omega arith), (λ e. ne (omega arith)))) (λ e. omega arith)
          (never_closes n r m.0 (Looked f) (λ k w e. ⊎_elim (λ y. absurd cc) (λ y. absurd cc) e) (λ x w e. absurd cc) (λ c e. absurd cc) (λ c e. absurd cc))
          (λ c e is h. absurd cc)
          (λ keep back. subst (λ (z : ℕ × ℕ). RoundKept n z.0 z.1 (Has (set s.views id (with_event r (Looked f) m.0)) r))
          (λ z. (sym (get_or-set_other s.words (frozen_of r) (arrivals_of r) f 0 (λ e. omega arith)) z, sym (get_or-set_same s.words (frozen_of r) f 0 (omega arith)) z))
          (after_look n (word s (arrivals_of r)) f (Has s.views r) (Has (set s.views id (with_event r (Looked f) m.0)) r) round keep back)),
      λ q e. let y : r ≡ q = omega arith in (
        (λ t. (with_event (y t) (Looked f) m.0, m.1)),
        (λ before own. round.looks before (has_own s id m.0 r (Looked before) here (subst (λ (t : ℕ). In (event t (Looked before)) m.0.events) (sym y) own))),
        (λ c own. (round.publishes c (has_own s id m.0 r (Published c) here (subst (λ (t : ℕ). In (event t (Published c)) m.0.events) (sym y) own))).1),
      ),
    )

-- a deed that is none of a round's own
record IsNoRounds (d : Deed) : Type 0 where
  posted : (k w : ℕ) → ¬ (d ≡ Posted k w)
  passed : (k w : ℕ) → ¬ (d ≡ Passed k w)
  closed : (c : ℕ) → ¬ (d ≡ Closed c)
  published : (c : ℕ) → ¬ (d ≡ Published c)
  cuts : (m w : ℕ) → ¬ (d ≡ Cut m w)

-- a deed on the control word
control_deed : (n rounds : ℕ) (s : St) (o : IsInOrder n rounds s) (i : ℕ) (v : View) → get_elem? s.views i ≡ some v → (d : Deed) (x : ℕ) → IsNoRounds d
    → (((y : Deed) → Has s.views 8 y → Has (set s.views i (with_event 8 d v)) 8 y) → ((y : Deed) → Has (set s.views i (with_event 8 d v)) 8 y → Has s.views 8 y ⊎ (d ≡ y)) → ControlKept x (Has (set s.views i (with_event 8 d v)) 8))
    → IsInOrder n rounds record { words = set s.words 0 x; homes = s.homes; views = set s.views i (with_event 8 d v) }
control_deed n rounds s o i v here d x quiet control =
    let vs : List View = s.views in let vs' : List View = set vs i (with_event 8 d v) in let r : ℕ = 8 in let few = o.few in let long = o.long in
    let keep : (q : ℕ) (y : Deed) → Has vs q y → Has vs' q y = has_keep vs i v here r d in
    let back : (q : ℕ) (y : Deed) → Has vs' q y → Has vs q y ⊎ (event r d ≡ event q y) = has_back vs i v here r d in
    let old : (j q : ℕ) (y : Deed) → ¬ (d ≡ y) → Did vs' j q y → Did vs j q y = λ j q y ne h. ⊎_elim (λ (t : Did vs j q y). t) (λ (t : (j ≡ i) × (event r d ≡ event q y)). absurd (ne (ap (λ (z : Event). z.deed) t.1))) (did_back vs i v here r d j q y h) in
    record {
      long = length-set s.words 0 x ∙ o.long;
      few = o.few;
      each_round = λ q near. subst (λ (z : ℕ × ℕ). RoundKept n z.0 z.1 (Has vs' q)) (λ z. (sym (get_or-set_other s.words 0 (arrivals_of q) x 0 (λ e. omega arith)) z, sym (get_or-set_other s.words 0 (frozen_of q) x 0 (λ e. omega arith)) z))
          (same_round n (word s (arrivals_of q)) (word s (frozen_of q)) (Has vs q) (Has vs' q) (keep q)
          (λ y h. ⊎_elim (λ (t : Has vs q y). t) (λ (t : event r d ≡ event q y). absurd (let z : r ≡ q = ap event_of_round t in omega arith)) (back q y h)) (o.each_round q near));
      control = subst (λ (z : ℕ). ControlKept z (Has vs' 8)) (sym (get_or-set_same s.words 0 x 0 (omega arith)))
          (control (keep 8) (λ y h. ⊎_elim (λ (t : Has vs 8 y). inl t) (λ (t : event r d ≡ event 8 y). inr (ap (λ (z : Event). z.deed) t)) (back 8 y h)));
      single = λ j l k a b. o.single j l k (sits_back vs i v here r d j k a) (sits_back vs i v here r d l k b);
      licensed = λ j q c h. arrived_keep n vs i v here r d j q (o.licensed j q c (old j q (Closed c) (quiet.closed c) h));
      publisher = λ j q c h. did_keep vs i v here r d j q (Closed c) (o.publisher j q c (old j q (Published c) (quiet.published c) h));
      alone = λ j l q c e a b. o.alone j l q c e (old j q (Closed c) (quiet.closed c) a) (old l q (Closed e) (quiet.closed e) b);
      own = λ j q k w h. sits_keep vs i v here r d j (k + 1) (o.own j q k w (⊎_elim (λ (t : Did vs' j q (Posted k w)). inl (old j q (Posted k w) (quiet.posted k w) t)) (λ (t : Did vs' j q (Passed k w)). inr (old j q (Passed k w) (quiet.passed k w) t)) h));
      warden = λ j q m w h. sits_keep vs i v here r d j (n + 1) (o.warden j q m w (old j q (Cut m w) (quiet.cuts m w) h));
      numbered = λ j k u is zero_ l b. ⊎_elim (λ (t : (j ≡ i) × (with_event r d v ≡ u)). subst (λ (z : View). k < z.given) t.1
          (o.numbered i k v here (subst (λ (z : View). In 0 z.numbers) (sym t.1) zero_) l (sits_back vs i v here r d l k b)))
          (λ (t : (j ≢ i) × (get_elem? vs j ≡ some u)). o.numbered j k u t.1 zero_ l (sits_back vs i v here r d l k b)) (at_set vs i j (with_event r d v) u is);
    }

pub aborts : (n rounds slots id : ℕ) (m : Sat) → Allows (IsInOrder n rounds) slots id m 0 (λ a. bit_or a (2 ^ 0)) (aborted (step slots 0 (2 ^ 0) 0 none) m)
aborts n rounds slots id m s o wide here _ = (
  with_event 8 Aborted m.0,
  keeps,
  tt,
  control_deed n rounds s o id m.0 here Aborted (bit_or (word s 0) (2 ^ 0)) record { posted = λ k w e. absurd cc; passed = λ k w e. absurd cc; closed = λ c e. absurd cc; published = λ c e. absurd cc; cuts = λ x w e. absurd cc }
      (λ keep back. after_abort (word s 0) (Has s.views 8) (Has (set s.views id (with_event 8 Aborted m.0)) 8) o.control keep back (has_new s.views id m.0 here 8 Aborted)),
  refl,
)

pub controls : (n rounds slots id : ℕ) (m : Sat) → Allows (IsInOrder n rounds) slots id m 0 (λ a. a) (controlled (step slots 0 0 0 none) m)
controls n rounds slots id m s o wide here _ = (
  with_event 8 (SawControl (word s 0)) m.0,
  keeps,
  tt,
  control_deed n rounds s o id m.0 here (SawControl (word s 0)) (word s 0) record { posted = λ k w e. absurd cc; passed = λ k w e. absurd cc; closed = λ c e. absurd cc; published = λ c e. absurd cc; cuts = λ x w e. absurd cc }
      (λ keep back. after_control (word s 0) (Has s.views 8) (Has (set s.views id (with_event 8 (SawControl (word s 0)) m.0)) 8) o.control keep back),
  (refl, (λ h. o.control.aborts (has_own s id m.0 8 Aborted here h)), (λ before h. o.control.sees before (has_own s id m.0 8 (SawControl before) here h))),
)

-- ---- the start, and seats that come and go
no_deed : (i r : ℕ) (d : Deed) → Did (opened ∷ []) i r d → ⊥
no_deed zero r d (v, e, h) = subst (λ (u : View). In (event r d) u.events) (sym (some-injective opened v e)) h
no_deed (suc i) r d (v, e, h) = absurd (some-ne-none v (sym e))

one_sits : (i k : ℕ) → Sits (opened ∷ []) i k → (i ≡ 0) × (k ≡ 0)
one_sits zero k (v, e, h) = (refl, ⊎_elim (λ (t : 0 ≡ k). sym t) (λ (t : ⊥). absurd t) (subst (λ (u : View). In k u.numbers) (sym (some-injective opened v e)) h))
one_sits (suc i) k (v, e, h) = absurd (some-ne-none v (sym e))

one_view : (i : ℕ) (v : View) → get_elem? (opened ∷ []) i ≡ some v → v ≡ opened
one_view zero v e = sym (some-injective opened v e)
one_view (suc i) v e = absurd (some-ne-none v (sym e))

empty_round : (n : ℕ) (H : Deed → Type 0) → ((d : Deed) → H d → ⊥) → RoundKept n 0 0 H
empty_round n H never = record {
  posts = λ k w h. absurd (never (Posted k w) h);
  posted = λ k small is. absurd (let z = bit_at-zero k in omega arith);
  passes = λ k w h. absurd (never (Passed k w) h);
  cuts = λ m w h. absurd (never (Cut m w) h);
  passed = λ k small is. absurd (let z = bit_at-zero (30 + k) in omega arith);
  spare = λ k low high. bit_at-zero k;
  closes = λ c h. absurd (never (Closed c) h);
  closed = λ is. absurd (let z = bit_at-zero 63 in omega arith);
  once = λ c d h i. absurd (never (Closed c) h);
  timely = λ c k w h i. absurd (never (Closed c) h);
  publishes = λ c h. absurd (never (Published c) h);
  published = inl refl;
  looks = λ m h. absurd (never (Looked m) h);
}

pub opens : (n rounds : ℕ) (ws : List ℕ) (hs : List (Option (Unit {0}))) → rounds ≤ 8 → length ws ≡ 2 * rounds + 1 → ((i : ℕ) → get_or ws i 0 ≡ 0) → IsInOrder n rounds record { words = ws; homes = hs; views = opened ∷ [] }
opens n rounds ws hs few long zeros = record {
  long = long;
  each_round = λ r inside. subst (λ (z : ℕ × ℕ). RoundKept n z.0 z.1 (Has (opened ∷ []) r)) (λ z. (sym (zeros (arrivals_of r)) z, sym (zeros (frozen_of r)) z)) (empty_round n (Has (opened ∷ []) r) (λ d h. no_deed h.0 r d h.1));
  few = few;
  control = record { aborts = λ h. absurd (no_deed h.0 8 Aborted h.1); aborted = λ is. absurd (let z = bit_at-zero 0 in let y = zeros 0 in let w : bit_at (get_or ws 0 0) 0 ≡ bit_at 0 0 = ap (λ (t : ℕ). bit_at t 0) y in omega arith); sees = λ m h. absurd (no_deed h.0 8 (SawControl m) h.1) };
  single = λ i j k a b. (one_sits i k a).0 ∙ sym (one_sits j k b).0;
  licensed = λ i r c h. absurd (no_deed i r (Closed c) h);
  publisher = λ i r c h. absurd (no_deed i r (Published c) h);
  alone = λ i j r c d h g. absurd (no_deed i r (Closed c) h);
  own = λ i r k w h. absurd (⊎_elim (λ (t : Did (opened ∷ []) i r (Posted k w)). no_deed i r (Posted k w) t) (λ (t : Did (opened ∷ []) i r (Passed k w)). no_deed i r (Passed k w) t) h);
  warden = λ i r m w h. absurd (no_deed i r (Cut m w) h);
  numbered = λ i k v is zero_ j b. subst (λ (u : View). k < u.given) (sym (one_view i v is)) (let e = (one_sits j k b).1 in omega arith);
}

pub enters : (n rounds id : ℕ) (v : View) → In 0 v.numbers → Splits (IsInOrder n rounds) id v (given_out v) (entered v)
enters n rounds id v hub s o here =
    let vs : List View = s.views in let w : View = given_out v in let x : View = entered v in let vs' : List View = set vs id w ++ x ∷ [] in
    let did_to : (j q : ℕ) (d : Deed) → Did vs j q d → Did vs' j q d = λ j q d h. split_keep vs id v w x here (λ (u : View). In (event q d) u.events) (λ t. t) j h in
    let did_from : (j q : ℕ) (d : Deed) → Did vs' j q d → Did vs j q d = λ j q d h. ⊎_elim (λ (t : Did vs j q d). t) (λ (t : (j ≡ length (set vs id w)) × ⊥). absurd t.1) (split_back vs id v w x here (λ (u : View). In (event q d) u.events) (λ t. t) j h) in
    let sits_to : (j k : ℕ) → Sits vs j k → Sits vs' j k = λ j k h. split_keep vs id v w x here (λ (u : View). In k u.numbers) (λ t. t) j h in
    let sits_from : (j k : ℕ) → Sits vs' j k → Sits vs j k ⊎ ((j ≡ length (set vs id w)) × (k ≡ v.given)) = λ j k h. ⊎_elim (λ (t : Sits vs j k). inl t)
    (λ (t : (j ≡ length (set vs id w)) × ((v.given ≡ k) ⊎ ⊥)). inr (t.0, ⊎_elim (λ (e : v.given ≡ k). sym e) (λ (z : ⊥). absurd z) t.1)) (split_back vs id v w x here (λ (u : View). In k u.numbers) (λ t. t) j h) in
    let known : (j k : ℕ) → Sits vs j k → k < v.given = λ j k h. o.numbered id k v here hub j h in
    record {
      long = o.long;
      each_round = λ r inside. same_round n (word s (arrivals_of r)) (word s (frozen_of r)) (Has vs r) (Has vs' r) (λ d h. (h.0, did_to h.0 r d h.1)) (λ d h. (h.0, did_from h.0 r d h.1)) (o.each_round r inside);
      few = o.few;
      control = same_control (word s 0) (Has vs 8) (Has vs' 8) (λ d h. (h.0, did_to h.0 8 d h.1)) (λ d h. (h.0, did_from h.0 8 d h.1)) o.control;
      single = λ i j k a b. ⊎_elim
          (λ (t : Sits vs i k). ⊎_elim (λ (u : Sits vs j k). o.single i j k t u) (λ (u : (j ≡ length (set vs id w)) × (k ≡ v.given)). absurd (let z = known i k t in let y = u.1 in omega arith)) (sits_from j k b))
          (λ (t : (i ≡ length (set vs id w)) × (k ≡ v.given)). ⊎_elim (λ (u : Sits vs j k). absurd (let z = known j k u in let y = t.1 in omega arith)) (λ (u : (j ≡ length (set vs id w)) × (k ≡ v.given)). t.0 ∙ sym u.0) (sits_from j k b)) (sits_from i k a);
      licensed = λ j q c h. let t = o.licensed j q c (did_from j q (Closed c) h) in split_keep vs id v w x here (Showed n (event q)) (λ y. y) j t;
      publisher = λ j q c h. did_to j q (Closed c) (o.publisher j q c (did_from j q (Published c) h));
      alone = λ j l q c d a b. o.alone j l q c d (did_from j q (Closed c) a) (did_from l q (Closed d) b);
      own = λ j q k y h. sits_to j (k + 1) (o.own j q k y (⊎_elim (λ (t : Did vs' j q (Posted k y)). inl (did_from j q (Posted k y) t)) (λ (t : Did vs' j q (Passed k y)). inr (did_from j q (Passed k y) t)) h));
      warden = λ j q m y h. sits_to j (n + 1) (o.warden j q m y (did_from j q (Cut m y) h));
      numbered = λ i k u is zero_ l b.
          let below : k < v.given + 1 = ⊎_elim (λ (t : Sits vs l k). let z = known l k t in omega arith) (λ (t : (l ≡ length (set vs id w)) × (k ≡ v.given)). let z = t.1 in omega arith) (sits_from l k b) in
          ⊎_elim
          (λ (t : get_elem? (set vs id w) i ≡ some u). ⊎_elim (λ (y : (i ≡ id) × (w ≡ u)). subst (λ (z : View). k < z.given) y.1 below)
          (λ (y : (i ≢ id) × (get_elem? vs i ≡ some u)). absurd (y.0 (o.single i id 0 (u, y.1, zero_) (v, here, hub)))) (at_set vs id i w u t))
          (λ (t : (i ≡ length (set vs id w)) × (x ≡ u)). absurd (⊎_elim (λ (e : v.given ≡ 0). let z = known id 0 (v, here, hub) in omega arith) (λ (z : ⊥). z) (subst (λ (z : View). In 0 z.numbers) (sym t.1) zero_)))
          (at_snoc_place (set vs id w) x u i is);
    }

pub gathers : (n rounds id : ℕ) (v : View) (other : ℕ) (w : View) → Joins (IsInOrder n rounds) id v other w (both_of v w) spent
gathers n rounds id v other w s o here apart there =
    let vs : List View = s.views in let both : View = both_of v w in let vs' : List View = set (set vs id both) other spent in
    let did : ℕ → Deed → View → Type 0 = λ q d u. In (event q d) u.events in
    let sat : ℕ → View → Type 0 = λ k u. In k u.numbers in
    let did_from : (j q : ℕ) (d : Deed) → Did vs' j q d → ((j ≢ other) × Did vs j q d) ⊎ ((j ≡ id) × Did vs other q d) = λ j q d. join_from vs id v other w both spent here apart there (did q d) (λ z. z) (λ h. In-back (event q d) v.events w.events h) j in
    let sits_from : (j k : ℕ) → Sits vs' j k → ((j ≢ other) × Sits vs j k) ⊎ ((j ≡ id) × Sits vs other k) = λ j k. join_from vs id v other w both spent here apart there (sat k) (λ z. z) (λ h. In-back k v.numbers w.numbers h) j in
    let sits_to : (j k : ℕ) → j ≢ other → Sits vs j k → Sits vs' j k = λ j k. join_to vs id v other w both spent here apart there (sat k) (λ h. In-left k v.numbers w.numbers h) j in
    let sits_over : (k : ℕ) → Sits vs other k → Sits vs' id k = λ k. join_over vs id v other w both spent here apart there (sat k) (λ h. In-right k v.numbers w.numbers h) in
    let has_from : (q : ℕ) (d : Deed) → Has vs' q d → Has vs q d = λ q d h. ⊎_elim (λ (t : (h.0 ≢ other) × Did vs h.0 q d). (h.0, t.1)) (λ (t : (h.0 ≡ id) × Did vs other q d). (other, t.1)) (did_from h.0 q d h.1) in
    let has_to : (q : ℕ) (d : Deed) → Has vs q d → Has vs' q d = λ q d h. dite (ℕ_discrete h.0 other)
    (λ e. (id, join_over vs id v other w both spent here apart there (did q d) (λ t. In-right (event q d) v.events w.events t) (subst (λ (z : ℕ). Did vs z q d) e h.1)))
    (λ n. (h.0, join_to vs id v other w both spent here apart there (did q d) (λ t. In-left (event q d) v.events w.events t) h.0 n h.1)) in
    let some_sits : (l k : ℕ) → Sits vs' l k → (j : ℕ) × Sits vs j k = λ l k h. ⊎_elim (λ (t : (l ≢ other) × Sits vs l k). (l, t.1)) (λ (t : (l ≡ id) × Sits vs other k). (other, t.1)) (sits_from l k h) in
    record {
      long = o.long;
      each_round = λ r inside. same_round n (word s (arrivals_of r)) (word s (frozen_of r)) (Has vs r) (Has vs' r) (has_to r) (has_from r) (o.each_round r inside);
      few = o.few;
      control = same_control (word s 0) (Has vs 8) (Has vs' 8) (has_to 8) (has_from 8) o.control;
      single = λ i j k a b. ⊎_elim
          (λ (t : (i ≢ other) × Sits vs i k). ⊎_elim (λ (u : (j ≢ other) × Sits vs j k). o.single i j k t.1 u.1) (λ (u : (j ≡ id) × Sits vs other k). absurd (t.0 (o.single i other k t.1 u.1))) (sits_from j k b))
          (λ (t : (i ≡ id) × Sits vs other k). ⊎_elim (λ (u : (j ≢ other) × Sits vs j k). absurd (u.0 (o.single j other k u.1 t.1))) (λ (u : (j ≡ id) × Sits vs other k). t.0 ∙ sym u.0) (sits_from j k b)) (sits_from i k a);
      licensed = λ j q c h. ⊎_elim
          (λ (t : (j ≢ other) × Did vs j q (Closed c)). join_to vs id v other w both spent here apart there (Showed n (event q)) (λ z. (z.0, z.1, In-left (event q z.0) v.events w.events z.2, z.3, z.4)) j t.0 (o.licensed j q c t.1))
          (λ (t : (j ≡ id) × Did vs other q (Closed c)). subst (λ (z : ℕ). HasShown vs' n z q) (sym t.0) (join_over vs id v other w both spent here apart there (Showed n (event q)) (λ z. (z.0, z.1, In-right (event q z.0) v.events w.events z.2, z.3, z.4)) (o.licensed other q c t.1))) (did_from j q (Closed c) h);
      publisher = λ j q c h. ⊎_elim
          (λ (t : (j ≢ other) × Did vs j q (Published c)). join_to vs id v other w both spent here apart there (did q (Closed c)) (λ z. In-left (event q (Closed c)) v.events w.events z) j t.0 (o.publisher j q c t.1))
          (λ (t : (j ≡ id) × Did vs other q (Published c)). subst (λ (z : ℕ). Did vs' z q (Closed c)) (sym t.0) (join_over vs id v other w both spent here apart there (did q (Closed c)) (λ z. In-right (event q (Closed c)) v.events w.events z) (o.publisher other q c t.1))) (did_from j q (Published c) h);
      alone = λ i j q c d a b. ⊎_elim
          (λ (t : (i ≢ other) × Did vs i q (Closed c)). ⊎_elim (λ (u : (j ≢ other) × Did vs j q (Closed d)). o.alone i j q c d t.1 u.1) (λ (u : (j ≡ id) × Did vs other q (Closed d)). absurd (t.0 (o.alone i other q c d t.1 u.1))) (did_from j q (Closed d) b))
          (λ (t : (i ≡ id) × Did vs other q (Closed c)). ⊎_elim (λ (u : (j ≢ other) × Did vs j q (Closed d)). absurd (u.0 (o.alone j other q d c u.1 t.1))) (λ (u : (j ≡ id) × Did vs other q (Closed d)). t.0 ∙ sym u.0) (did_from j q (Closed d) b)) (did_from i q (Closed c) a);
      own = λ j q k y h. let from : ((j ≢ other) × Sits vs j (k + 1)) ⊎ ((j ≡ id) × Sits vs other (k + 1)) = ⊎_elim
          (λ (z : Did vs' j q (Posted k y)). ⊎_elim (λ (t : (j ≢ other) × Did vs j q (Posted k y)). inl (t.0, o.own j q k y (inl t.1))) (λ (t : (j ≡ id) × Did vs other q (Posted k y)). inr (t.0, o.own other q k y (inl t.1))) (did_from j q (Posted k y) z))
          (λ (z : Did vs' j q (Passed k y)). ⊎_elim (λ (t : (j ≢ other) × Did vs j q (Passed k y)). inl (t.0, o.own j q k y (inr t.1))) (λ (t : (j ≡ id) × Did vs other q (Passed k y)). inr (t.0, o.own other q k y (inr t.1))) (did_from j q (Passed k y) z)) h in
          ⊎_elim (λ (t : (j ≢ other) × Sits vs j (k + 1)). sits_to j (k + 1) t.0 t.1) (λ (t : (j ≡ id) × Sits vs other (k + 1)). subst (λ (z : ℕ). Sits vs' z (k + 1)) (sym t.0) (sits_over (k + 1) t.1)) from;
      warden = λ j q m y h. ⊎_elim (λ (t : (j ≢ other) × Did vs j q (Cut m y)). sits_to j (n + 1) t.0 (o.warden j q m y t.1))
          (λ (t : (j ≡ id) × Did vs other q (Cut m y)). subst (λ (z : ℕ). Sits vs' z (n + 1)) (sym t.0) (sits_over (n + 1) (o.warden other q m y t.1))) (did_from j q (Cut m y) h);
      numbered = λ i k u is zero_ l b. let somewhere = some_sits l k b in ⊎_elim
          (λ (t : (i ≡ other) × (spent ≡ u)). absurd (subst (λ (z : View). In 0 z.numbers) (sym t.1) zero_))
          (λ (t : (i ≢ other) × (get_elem? (set vs id both) i ≡ some u)). ⊎_elim
          (λ (y : (i ≡ id) × (both ≡ u)). subst (λ (z : View). k < z.given) y.1 (⊎_elim
          (λ (z : In 0 v.numbers). let p = o.numbered id k v here z somewhere.0 somewhere.1 in omega arith)
          (λ (z : In 0 w.numbers). let p = o.numbered other k w (sym (set_else vs id other both apart) ∙ there) z somewhere.0 somewhere.1 in omega arith)
          (In-back 0 v.numbers w.numbers (subst (λ (z : View). In 0 z.numbers) (sym y.1) zero_))))
          (λ (y : (i ≢ id) × (get_elem? vs i ≡ some u)). o.numbered i k u y.1 zero_ somewhere.0 somewhere.1) (at_set vs id i both u t.1))
          (at_set (set vs id both) other i spent u is);
    }
