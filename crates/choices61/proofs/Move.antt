-- The translation of a move.
use Rattle.std.proofs.Common.{inl, inr, ◌≡◌, ℕ, ◌+◌, ◌*◌, ◌<◌, ◌≤◌, Bool, true, false, ◌&&◌, not, cond, List, length, get_or, refl, sym, ap, ap₂, ◌∙◌, subst, arith, leb}
use Rattle.std.proofs.lemmas.Bool.{cases_eq, ne_eqb, and_parts, le-leb, not-true}
use Rattle.algebra61.specs.Field.{Fp, fe, zeroₚ, oneₚ, ◌+ₚ◌, ◌-ₚ◌, ◌*ₚ◌}
use Rattle.algebra61.specs.Poly.{eval}
use Rattle.algebra61.specs.Grid.{grid_at, add_product}
use Rattle.algebra61.specs.Nearest.{IsNearest}
use Rattle.algebra61.proofs.Ring.{mul_zero, zero_mul, add_zero, mul_one, one_mul, mul_commut, mul_assocₚ, dif-same, difs, by_dif3, by_dif4}
use Rattle.algebra61.proofs.PolyOps.{eval-scale, length-scale}
use Rattle.algebra61.proofs.Ext.{at_add_product}
use Rattle.sizes.specs.Instances.{dealer_of, lane_of, instance_at}
use Rattle.talk.specs.declared.messages.Post.TheVariants.{Syndromes}
use Rattle.talk.specs.Shape.{receives}
use Rattle.plays.specs.Play.{Play, seat_of}
use Rattle.plays.specs.Law.{HonestIn}
use Rattle.plays.specs.Stage.{receiver_at}
use Rattle.plays.proofs.Steps.{flat_same}
use Rattle.checks61.proofs.Errors.{values_zero}
use Rattle.checks61.proofs.Weights.{weighs_at_zero}
use Rattle.checks61.proofs.Sums.{sum_same}
use Rattle.checks61.specs.Checks.{check_entry, check_of, entry, sum_to, weight_at_zero}
use Rattle.periods.specs.Move.{IsOpened, moved_share, old_bound, syndrome_in, posted_values, subshare, syndromes_by, syndromes_heard}
use Rattle.histories61.specs.Phases.{Moved, receivers_down}
use Rattle.histories61.specs.Course.{HasErrors}
use Rattle.histories61.proofs.Lists.{cond_same, unless_same, map_same}
use Rattle.choices61.specs.Sets.{vanisher_of}
use Rattle.choices61.specs.Views.{post_in_phase}
use Rattle.choices61.specs.Products.{AllHide, rise_of, SameInSharing}
use Rattle.choices61.specs.Translation.{factor_in_x, factor_in_y, is_translated, translated_phase, rise_in}
use Rattle.choices61.specs.Phases.{MoveHides, MoveTranslates}
use Rattle.choices61.proofs.Sets.{length-vanisher_of, vanisher_of_zero, vanisher_of_root}
use Rattle.choices61.proofs.Sums.{sum_add, sum_times, at_dealer}
use Rattle.choices61.proofs.Products.{products_look_same, receiver_on}
use Rattle.choices61.proofs.Phases.{few_down, receivers_small, dealers_small, across_zero, early_post}

-- ---- what is added
pub move_hides : (t : ℕ) (p : Play) (before after : ℕ → Bool) (difference : ℕ → Fp) → MoveHides t p before after →
    AllHide p (λ i. is_translated Moved p.shape p.down (dealer_of i)) (factor_in_x p.shape p.down) (λ i. factor_in_y Moved p.shape before after (difference (lane_of i)) (dealer_of i))
move_hides t p before after difference f =
    let zp : List Fp = vanisher_of p.shape.receivers after in
    let zb : List Fp = vanisher_of p.shape.dealers before in
    record {
      honest = λ i lt e. not-true (p.down (dealer_of i)) (and_parts (leb (dealer_of i) p.shape.dealers) _ e).1;
      short_x = λ i lt e. omega (arith, length-vanisher_of p.shape.receivers (receivers_down p), few_down p f.proper f.setting, f.degree);
      short_y = λ i lt e. omega (arith, length-scale (eval zb (fe (dealer_of i)) *ₚ difference (lane_of i)) zp, length-vanisher_of p.shape.receivers after, f.seen_after.few, f.degree);
      one = vanisher_of_zero p.shape.receivers (receivers_down p);
      across = λ j a b d. across_zero p j f.setting a b d;
      down = λ i j lt e a b d.
          eval-scale (eval zb (fe (dealer_of i)) *ₚ difference (lane_of i)) zp (fe j)
          ∙ ap (λ v. (eval zb (fe (dealer_of i)) *ₚ difference (lane_of i)) *ₚ v) (vanisher_of_root p.shape.receivers after (receivers_small p.shape f.setting) j a b (f.seen_after.seen j a b d))
          ∙ mul_zero (eval zb (fe (dealer_of i)) *ₚ difference (lane_of i));
    }

-- what dealer i's shares rise by: its own rise times that of the new period. For a dealer that is down both are nothing
dealer_rise : (t : ℕ) (p : Play) (before after : ℕ → Bool) (delta : Fp) (i j : ℕ) (b : Bool) → MoveHides t p before after → p.down i ≡ b → 1 ≤ i → i ≤ p.shape.dealers →
    cond (not b) (eval (factor_in_y Moved p.shape before after delta i) (fe j)) zeroₚ ≡ eval (vanisher_of p.shape.dealers before) (fe i) *ₚ rise_in p.shape.receivers after delta j
dealer_rise t p before after delta i j true f e a b =
    sym (ap (λ v. v *ₚ rise_in p.shape.receivers after delta j) (vanisher_of_root p.shape.dealers before (dealers_small p.shape f.setting) i a b (f.seen_before.seen i a b e)) ∙ zero_mul (rise_in p.shape.receivers after delta j))
dealer_rise t p before after delta i j false f e a b =
    eval-scale (eval (vanisher_of p.shape.dealers before) (fe i) *ₚ delta) (vanisher_of p.shape.receivers after) (fe j)
    ∙ mul_assocₚ (eval (vanisher_of p.shape.dealers before) (fe i)) delta (eval (vanisher_of p.shape.receivers after) (fe j))

-- ---- sums with weights
weigh_ring : (a v z c : Fp) → a *ₚ (v +ₚ z *ₚ c) ≡ a *ₚ v +ₚ (a *ₚ z) *ₚ c
weigh_ring = by_dif4 _ (λ m n k l. simp difs (dif-same _ _ _ _ (omega arith)))

weighed : (n : ℕ) (a v w z : ℕ → Fp) (c : Fp) → ((i : ℕ) → 1 ≤ i → i ≤ n → w i ≡ v i +ₚ z i *ₚ c) →
    sum_to n (λ i. a i *ₚ w i) ≡ sum_to n (λ i. a i *ₚ v i) +ₚ sum_to n (λ i. a i *ₚ z i) *ₚ c
weighed n a v w z c h =
    sum_same n (λ i. a i *ₚ w i) (λ i. a i *ₚ v i +ₚ (a i *ₚ z i) *ₚ c) (λ i l m. ap (λ x. a i *ₚ x) (h i l m) ∙ weigh_ring (a i) (v i) (z i) c)
    ∙ sum_add n (λ i. a i *ₚ v i) (λ i. (a i *ₚ z i) *ₚ c)
    ∙ ap (λ x. sum_to n (λ i. a i *ₚ v i) +ₚ x) (sum_times n (λ i. a i *ₚ z i) c)

module _ (t : ℕ) (p : Play) (before after : ℕ → Bool) (difference : ℕ → Fp) (f : MoveHides t p before after) where
  got : SameInSharing p (translated_phase Moved p before after difference) (rise_of (λ i. is_translated Moved p.shape p.down (dealer_of i)) (λ i. factor_in_y Moved p.shape before after (difference (lane_of i)) (dealer_of i)))
  got =
      products_look_same p (λ i. is_translated Moved p.shape p.down (dealer_of i)) (factor_in_x p.shape p.down) (λ i. factor_in_y Moved p.shape before after (difference (lane_of i)) (dealer_of i)) f.proper
      (move_hides t p before after difference f)

  sub_rises : (l i j : ℕ) → l < 5 → 1 ≤ i → i ≤ p.shape.dealers → HonestIn p j →
      subshare (translated_phase Moved p before after difference) l i j ≡ subshare p l i j +ₚ eval (vanisher_of p.shape.dealers before) (fe i) *ₚ rise_in p.shape.receivers after (difference l) j
  sub_rises l i j l5 a b s =
      got.shares (instance_at i l) j (omega (arith, a, b, l5)) s
      ∙ ap (λ v. subshare p l i j +ₚ v)
      (at_dealer (λ k m. cond (leb k p.shape.dealers && not (p.down k)) (eval (factor_in_y Moved p.shape before after (difference m) k) (fe j)) zeroₚ) i l a l5
      ∙ ap (λ t. cond (t && not (p.down i)) (eval (factor_in_y Moved p.shape before after (difference l) i) (fe j)) zeroₚ) (le-leb i p.shape.dealers b)
      ∙ dealer_rise t p before after (difference l) i j (p.down i) f refl a b)

  old_short : length (vanisher_of p.shape.dealers before) ≤ t + 1
  old_short = omega (arith, length-vanisher_of p.shape.dealers before, f.seen_before.few)

  checks_stay : (l m j : ℕ) → l < 5 → m < p.shape.checks → HonestIn p j →
      check_of p.shape.dealers m (λ i. subshare (translated_phase Moved p before after difference) l i j) ≡ check_of p.shape.dealers m (λ i. subshare p l i j)
  checks_stay l m j l5 lt s =
      weighed p.shape.dealers (λ i. check_entry p.shape.dealers m i) (λ i. subshare p l i j) _ (λ i. eval (vanisher_of p.shape.dealers before) (fe i)) (rise_in p.shape.receivers after (difference l) j)
      (λ i a b. sub_rises l i j l5 a b s)
      ∙ ap (λ v. check_of p.shape.dealers m (λ i. subshare p l i j) +ₚ v *ₚ rise_in p.shape.receivers after (difference l) j)
      (values_zero p.shape.dealers m (vanisher_of p.shape.dealers before) (dealers_small p.shape f.setting) (omega (arith, lt, old_short, f.two.checks)))
      ∙ ap (λ v. check_of p.shape.dealers m (λ i. subshare p l i j) +ₚ v) (zero_mul (rise_in p.shape.receivers after (difference l) j))
      ∙ add_zero (check_of p.shape.dealers m (λ i. subshare p l i j))

  syndromes_stay : (j : ℕ) → HonestIn p j → syndromes_by (translated_phase Moved p before after difference) j ≡ syndromes_by p j
  unfolding syndromes_by
  syndromes_stay j s =
      ap Syndromes (flat_same _ _ 5 0 (λ l l0 l5. map_same _ _ p.shape.checks 0 (λ m m0 lt. checks_stay l m j l5 (omega (arith, lt)) s)))

  sixth_heard : (j : ℕ) → 1 ≤ j → j ≤ p.shape.receivers → syndromes_heard (translated_phase Moved p before after difference) j ≡ syndromes_heard p j
  sixth_heard j a b = unless_same (p.down (seat_of p.shape j)) _ _ _ (λ up. syndromes_stay j (record { from = a; to = b; up = up }))

  sixth_post : (seat : ℕ) → post_in_phase (translated_phase Moved p before after difference) 6 seat ≡ post_in_phase p 6 seat
  sixth_post seat =
      unless_same (p.down seat) _ _ _
      (λ up. cond_same (receives p.shape seat) _ _ _ _
      (λ e. let r = receiver_on p.shape seat e in syndromes_stay (receiver_at p.shape seat) (record { from = r.from; to = r.to; up = ap p.down r.seat_is ∙ up })) refl)

  values_stay : (l m : ℕ) →
      posted_values p.shape (syndromes_heard (translated_phase Moved p before after difference)) l m ≡ posted_values p.shape (syndromes_heard p) l m
  values_stay l m = map_same _ _ p.shape.receivers 1 (λ j a b. ap (syndrome_in (l * p.shape.checks + m)) (sixth_heard j a (omega (arith, b))))

  opened_stay : (l m : ℕ) (z : Fp) → IsOpened p.shape (syndromes_heard p) l m z → IsOpened p.shape (syndromes_heard (translated_phase Moved p before after difference)) l m z
  opened_stay l m z o = (o.0, subst (λ vs. IsNearest p.shape.degree vs o.0) (sym (values_stay l m)) o.1, o.2)

  errors_stay : (errs : List (List Fp)) → HasErrors p errs → HasErrors (translated_phase Moved p before after difference) errs
  errors_stay errs h = record {
    five = h.five;
    each = λ l l5.
        let e = h.each l l5 in
        record {
          syndrome = e.syndrome;
          opened = record { long = e.opened.long; each = λ m lt. opened_stay l m (get_or e.syndrome m zeroₚ) (e.opened.each m lt) };
          is = e.is;
        };
  }

  bound_is : old_bound p.shape ≡ t
  bound_is = omega (arith, f.two.checks)

  minus_ring : (a b e : Fp) → (a +ₚ b) -ₚ e ≡ (a -ₚ e) +ₚ b
  minus_ring = by_dif3 _ (λ m n k. simp difs (dif-same _ _ _ _ (omega arith)))

  moved_rises : (l j : ℕ) (e : List Fp) → l < 5 → HonestIn p j →
      moved_share (translated_phase Moved p before after difference) l e j ≡ moved_share p l e j +ₚ rise_in p.shape.receivers after (difference l) j
  moved_rises l j e l5 s =
      let k : ℕ = old_bound p.shape + 1 in
      let zb : List Fp = vanisher_of p.shape.dealers before in
      let c : Fp = rise_in p.shape.receivers after (difference l) j in
      let one : sum_to k (λ i. weight_at_zero k i *ₚ eval zb (fe i)) ≡ oneₚ =
      weighs_at_zero k zb (omega (arith, bound_is, dealers_small p.shape f.setting, f.two.third)) (omega (arith, bound_is, old_short)) ∙ vanisher_of_zero p.shape.dealers before in
      weighed k (λ i. weight_at_zero k i) (λ i. subshare p l i j -ₚ entry e i) (λ i. subshare (translated_phase Moved p before after difference) l i j -ₚ entry e i) (λ i. eval zb (fe i)) c
      (λ i a b. ap (λ v. v -ₚ entry e i) (sub_rises l i j l5 a (omega (arith, b, bound_is, f.two.third)) s) ∙ minus_ring (subshare p l i j) (eval zb (fe i) *ₚ c) (entry e i))
      ∙ ap (λ v. moved_share p l e j +ₚ v *ₚ c) one
      ∙ ap (λ v. moved_share p l e j +ₚ v) (one_mul c)

  constants_rise : (i l : ℕ) → 1 ≤ i → i ≤ p.shape.dealers → l < 5 → p.down i ≡ false →
      grid_at ((translated_phase Moved p before after difference).grid (instance_at i l)) zeroₚ zeroₚ ≡ grid_at (p.grid (instance_at i l)) zeroₚ zeroₚ +ₚ rise_in p.shape.dealers before (difference l) i
  constants_rise i l a b l5 up =
      let g : List (List Fp) = p.grid (instance_at i l) in
      let h : List Fp = factor_in_y Moved p.shape before after (difference l) i in
      let zb : Fp = eval (vanisher_of p.shape.dealers before) (fe i) in
      at_dealer (λ k m. grid_at (cond (leb k p.shape.dealers && not (p.down k)) (add_product g (factor_in_x p.shape p.down) (factor_in_y Moved p.shape before after (difference m) k)) g) zeroₚ zeroₚ) i l a l5
      ∙ ap (λ t. grid_at (cond (t && not (p.down i)) (add_product g (factor_in_x p.shape p.down) h) g) zeroₚ zeroₚ) (le-leb i p.shape.dealers b)
      ∙ ap (λ v. grid_at (cond (not v) (add_product g (factor_in_x p.shape p.down) h) g) zeroₚ zeroₚ) up
      ∙ at_add_product g (factor_in_x p.shape p.down) h zeroₚ zeroₚ
      ∙ ap₂ (λ v w. grid_at g zeroₚ zeroₚ +ₚ v *ₚ w) (vanisher_of_zero p.shape.receivers (receivers_down p))
      (eval-scale (zb *ₚ difference l) (vanisher_of p.shape.receivers after) zeroₚ
      ∙ ap (λ v. (zb *ₚ difference l) *ₚ v) (vanisher_of_zero p.shape.receivers after) ∙ mul_one (zb *ₚ difference l) ∙ mul_commut zb (difference l))
      ∙ ap (λ v. grid_at g zeroₚ zeroₚ +ₚ v) (one_mul (difference l *ₚ zb))

  post_by_round : (round seat : ℕ) → post_in_phase (translated_phase Moved p before after difference) round seat ≡ post_in_phase p round seat
  post_by_round round seat =
      elim (cases_eq round 6) [
        | inl e ↦ subst (λ r. post_in_phase (translated_phase Moved p before after difference) r seat ≡ post_in_phase p r seat) (sym e) (sixth_post seat)
        | inr ne ↦ early_post p (translated_phase Moved p before after difference) round seat (ne_eqb round 6 ne) (got.posts round seat)
      ]

pub move_translates : MoveTranslates
move_translates t p before after difference f = record {
  views = record {
    proper = (got t p before after difference f).proper;
    posts = λ round seat le. post_by_round t p before after difference f round seat;
    rings = (got t p before after difference f).rings;
  };
  errors = errors_stay t p before after difference f;
  shares = moved_rises t p before after difference f;
  constants = constants_rise t p before after difference f;
}
