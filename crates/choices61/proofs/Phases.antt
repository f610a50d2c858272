-- The translations of a create and a refresh.
use Rattle.std.proofs.Common.{◌≡◌, ℕ, ◌+◌, ◌<◌, ◌≤◌, Bool, true, false, ◌&&◌, cond, eqb, leb, List, refl, sym, ap, ap₂, ◌∙◌, arith}
use Rattle.std.proofs.lemmas.Bool.{cond-false, eqb-true, ne_eqb, and_parts, leb-true, leb-false, and_right}
use Rattle.algebra61.specs.Field.{Fp, Prime, fe, zeroₚ, oneₚ, ◌+ₚ◌, ◌-ₚ◌, ◌*ₚ◌}
use Rattle.algebra61.specs.Poly.{eval, scale_list}
use Rattle.algebra61.proofs.Ring.{mul_zero, sub_self, dif-same, difs, by_dif2, by_dif5, by_dif6}
use Rattle.algebra61.proofs.Inverse.{other_zero}
use Rattle.algebra61.proofs.Ext.{fe_apart}
use Rattle.algebra61.proofs.PolyOps.{sub_list, eval-sub, eval-scale, length-sub, length-scale}
use Rattle.sizes.specs.Instances.{dealer_of, lane_of}
use Rattle.sharing61.specs.Count.{how_many}
use Rattle.sharing61.proofs.Count.{how_many_same}
use Rattle.talk.specs.Shape.{Shape, Lawful, OneCommittee, rounds, receives}
use Rattle.plays.specs.Play.{Play, instance_of, seat_of, created_share}
use Rattle.plays.specs.Law.{ProperPlay}
use Rattle.plays.specs.Heard.{post_heard}
use Rattle.checks61.specs.Checks.{sum_to}
use Rattle.checks61.proofs.Sums.{sum_same, sum_zero}
use Rattle.histories61.specs.Phases.{Created, Refreshed, receivers_down}
use Rattle.histories61.proofs.Lists.{unless_same}
use Rattle.choices61.specs.Sets.{vanisher_of, over_y, lowest_out}
use Rattle.choices61.specs.Views.{post_in_phase}
use Rattle.choices61.specs.Products.{AllHide, SameInSharing}
use Rattle.choices61.specs.Translation.{factor_in_x, factor_in_y, is_translated, translated_phase, rise_in}
use Rattle.choices61.specs.Phases.{CreateHides, RefreshHides, SameInPhase, CreateTranslates, RefreshTranslates}
use Rattle.choices61.proofs.Sets.{length-vanisher_of, vanisher_of_zero, vanisher_of_root, vanisher_of_same, within_same, LowestOut, lowest_there, eval-over_y, length-over_y}
use Rattle.choices61.proofs.Sums.{sum_one, created_more}
use Rattle.choices61.proofs.Products.{products_look_same}

-- ---- small facts
pub few_down : (p : Play) → ProperPlay p → Lawful p.shape → how_many p.shape.receivers (receivers_down p) ≤ p.shape.bound
unfolding instance_of
few_down p pr lw = (pr 0 (omega (arith, lw.dealers.0))).few

pub receivers_small : (s : Shape) → Lawful s → s.receivers < Prime
receivers_small s lw = omega (arith, lw.receivers.1)

pub dealers_small : (s : Shape) → Lawful s → s.dealers < Prime
dealers_small s lw = omega (arith, lw.dealers.1)

-- the seats of one committee
down_at : (p : Play) (j : ℕ) → p.shape.shift ≡ 0 → p.down (seat_of p.shape j) ≡ p.down j
down_at p j e = let f : p.shape.shift + j ≡ j = omega (arith, e) in ap p.down f

lowest_honest : (p : Play) → ProperPlay p → Lawful p.shape → OneCommittee p.shape → LowestOut p.shape.dealers p.down
lowest_honest p pr lw one =
    lowest_there p.shape.dealers p.down
    (omega (
      arith,
      few_down p pr lw,
      how_many_same p.shape.receivers (receivers_down p) p.down (λ k a b. down_at p k one.no_shift),
      ap (λ n. how_many n p.down) one.same,
      one.same,
      lw.third,
    ))

translated_out : (p : Play) → ProperPlay p → Lawful p.shape → OneCommittee p.shape → (k : ℕ) → eqb k (lowest_out p.shape.dealers p.down) ≡ true → p.down k ≡ false
translated_out p pr lw one k e = ap p.down (eqb-true k _ e) ∙ (lowest_honest p pr lw one).out

pub across_zero : (p : Play) (j : ℕ) → Lawful p.shape → 1 ≤ j → j ≤ p.shape.receivers → p.down (seat_of p.shape j) ≡ true → eval (factor_in_x p.shape p.down) (fe j) ≡ zeroₚ
across_zero p j lw a b d = vanisher_of_root p.shape.receivers (receivers_down p) (receivers_small p.shape lw) j a b d

-- a phase without a sixth round
early : (s : Shape) (round : ℕ) → s.checks ≡ 0 → round ≤ rounds s → eqb round 6 ≡ false
early s round e le =
    let r : rounds s ≡ rounds (record s { checks = 0 }) = ap (λ c. rounds (record s { checks = c })) e in ne_eqb round 6 (λ six. omega (arith, le, six, r))

plain_post : (p : Play) (round seat : ℕ) → eqb round 6 ≡ false → post_in_phase p round seat ≡ post_heard p round seat
plain_post p round seat e =
    unless_same (p.down seat) _ _ _ (λ up. cond-false (eqb round 6 && receives p.shape seat) _ _ (ap (λ b. b && receives p.shape seat) e))

pub early_post : (p q : Play) (round seat : ℕ) → eqb round 6 ≡ false → post_heard q round seat ≡ post_heard p round seat → post_in_phase q round seat ≡ post_in_phase p round seat
early_post p q round seat e same = plain_post q round seat e ∙ same ∙ sym (plain_post p round seat e)

views_from : (p q : Play) (rise : ℕ → ℕ → Fp) → p.shape.checks ≡ 0 → SameInSharing p q rise → SameInPhase p q
views_from p q rise e got = record {
  proper = got.proper;
  posts = λ round seat le. early_post p q round seat (early p.shape round e le) (got.posts round seat);
  rings = got.rings;
}

-- ---- a create
pub create_hides : (p : Play) (before after : ℕ → Bool) (difference : ℕ → Fp) → CreateHides p after →
    AllHide p (λ i. is_translated Created p.shape p.down (dealer_of i)) (factor_in_x p.shape p.down) (λ i. factor_in_y Created p.shape before after (difference (lane_of i)) (dealer_of i))
create_hides p before after difference f =
    let zp : List Fp = vanisher_of p.shape.receivers after in
    record {
      honest = λ i lt e. translated_out p f.proper f.setting f.one (dealer_of i) e;
      short_x = λ i lt e. omega (arith, length-vanisher_of p.shape.receivers (receivers_down p), few_down p f.proper f.setting, f.degree);
      short_y = λ i lt e. omega (arith, length-scale (difference (lane_of i)) zp, length-vanisher_of p.shape.receivers after, f.seen_after.few, f.degree);
      one = vanisher_of_zero p.shape.receivers (receivers_down p);
      across = λ j a b d. across_zero p j f.setting a b d;
      down = λ i j lt e a b d.
          eval-scale (difference (lane_of i)) zp (fe j)
          ∙ ap (λ v. difference (lane_of i) *ₚ v) (vanisher_of_root p.shape.receivers after (receivers_small p.shape f.setting) j a b (f.seen_after.seen j a b d))
          ∙ mul_zero (difference (lane_of i));
    }

pub create_translates : CreateTranslates
create_translates p before after difference f =
    let q : Play = translated_phase Created p before after difference in
    let got = products_look_same p (λ i. is_translated Created p.shape p.down (dealer_of i)) (factor_in_x p.shape p.down) (λ i. factor_in_y Created p.shape before after (difference (lane_of i)) (dealer_of i)) f.proper
    (create_hides p before after difference f) in
    let low = lowest_honest p f.proper f.setting f.one in
    record {
      views = views_from p q _ f.no_checks got;
      shares = λ l j l5 s.
          created_more p q (λ i l. cond (is_translated Created p.shape p.down i) (eval (factor_in_y Created p.shape before after (difference l) i) (fe j)) zeroₚ) l j l5 refl (λ i lt. got.shares i j lt s)
          ∙ ap (λ v. created_share p l j +ₚ v)
          (sum_one p.shape.dealers (lowest_out p.shape.dealers p.down) (eval (scale_list (difference l) (vanisher_of p.shape.receivers after)) (fe j)) low.from low.to
          ∙ eval-scale (difference l) (vanisher_of p.shape.receivers after) (fe j));
    }

-- ---- a refresh
-- the difference of the two polynomials
abbrev gap : Play → (ℕ → Bool) → (ℕ → Bool) → List Fp
gap p before after = sub_list (vanisher_of p.shape.receivers after) (vanisher_of p.shape.dealers before)

gap_zero : (p : Play) (before after : ℕ → Bool) → Lawful p.shape → eval (gap p before after) zeroₚ ≡ zeroₚ
gap_zero p before after lw =
    eval-sub (vanisher_of p.shape.receivers after) (vanisher_of p.shape.dealers before) zeroₚ
    ∙ ap₂ (λ a b. a -ₚ b) (vanisher_of_zero p.shape.receivers after) (vanisher_of_zero p.shape.dealers before)
    ∙ sub_self oneₚ

gap_at : (p : Play) (before after : ℕ → Bool) (x : Fp) → Lawful p.shape →
    x *ₚ eval (over_y (gap p before after)) x ≡ eval (vanisher_of p.shape.receivers after) x -ₚ eval (vanisher_of p.shape.dealers before) x
gap_at p before after x lw = eval-over_y (gap p before after) x (gap_zero p before after lw) ∙ eval-sub (vanisher_of p.shape.receivers after) (vanisher_of p.shape.dealers before) x

gap_down : (p : Play) (before after : ℕ → Bool) (j : ℕ) → RefreshHides p before after → 1 ≤ j → j ≤ p.shape.receivers → p.down (seat_of p.shape j) ≡ true → eval (over_y (gap p before after)) (fe j) ≡ zeroₚ
gap_down p before after j f a b d =
    let dj : p.down j ≡ true = sym (down_at p j f.one.no_shift) ∙ d in
    let jd : j ≤ p.shape.dealers = omega (arith, b, f.one.same) in
    other_zero (fe j) _ (fe_apart 0 j (omega (arith, a)) (omega (arith, b, receivers_small p.shape f.setting)))
    (gap_at p before after (fe j) f.setting
    ∙ ap₂ (λ u v. u -ₚ v) (vanisher_of_root p.shape.receivers after (receivers_small p.shape f.setting) j a b (f.seen_after.seen j a b d)) (vanisher_of_root p.shape.dealers before (dealers_small p.shape f.setting) j a jd (f.seen_before.seen j a jd dj))
    ∙ sub_self zeroₚ)

pub refresh_hides : (p : Play) (before after : ℕ → Bool) (difference : ℕ → Fp) → RefreshHides p before after →
    AllHide p (λ i. is_translated Refreshed p.shape p.down (dealer_of i)) (factor_in_x p.shape p.down) (λ i. factor_in_y Refreshed p.shape before after (difference (lane_of i)) (dealer_of i))
refresh_hides p before after difference f =
    let zp : List Fp = vanisher_of p.shape.receivers after in
    let zb : List Fp = vanisher_of p.shape.dealers before in
    let g : List Fp = gap p before after in
    record {
      honest = λ i lt e. translated_out p f.proper f.setting f.one (dealer_of i) (and_parts _ _ e).0;
      short_x = λ i lt e. omega (arith, length-vanisher_of p.shape.receivers (receivers_down p), leb-true (how_many p.shape.receivers (receivers_down p)) p.shape.degree (and_parts _ _ e).1);
      short_y = λ i lt e.
          omega (
            arith,
            length-scale (difference (lane_of i)) (over_y g),
            length-over_y g,
            length-sub zp zb,
            length-vanisher_of p.shape.receivers after,
            length-vanisher_of p.shape.dealers before,
            f.seen_after.few,
            f.seen_before.few,
            f.degree,
          );
      one = vanisher_of_zero p.shape.receivers (receivers_down p);
      across = λ j a b d. across_zero p j f.setting a b d;
      down = λ i j lt e a b d.
          eval-scale (difference (lane_of i)) (over_y g) (fe j)
          ∙ ap (λ v. difference (lane_of i) *ₚ v) (gap_down p before after j f a b d)
          ∙ mul_zero (difference (lane_of i));
    }

refresh_ring : (o d z x c e : Fp) → (o +ₚ d *ₚ z) +ₚ x *ₚ (c +ₚ d *ₚ e) ≡ (o +ₚ x *ₚ c) +ₚ d *ₚ (z +ₚ x *ₚ e)
refresh_ring = by_dif6 _ (λ m n k l i j. simp difs (dif-same _ _ _ _ (omega arith)))

back_ring : (z w : Fp) → z +ₚ (w -ₚ z) ≡ w
back_ring = by_dif2 _ (λ m n. simp difs (dif-same _ _ _ _ (omega arith)))

still_ring : (o d z x c : Fp) → (o +ₚ d *ₚ z) +ₚ x *ₚ (c +ₚ zeroₚ) ≡ (o +ₚ x *ₚ c) +ₚ d *ₚ z
still_ring = by_dif5 _ (λ m n k l i. simp difs (dif-same _ _ _ _ (omega arith)))

-- where too many are down for the degree, both exposed sets are those who are down
full_same : (p : Play) (before after : ℕ → Bool) → RefreshHides p before after → leb (how_many p.shape.receivers (receivers_down p)) p.shape.degree ≡ false →
    vanisher_of p.shape.receivers after ≡ vanisher_of p.shape.dealers before
full_same p before after f e =
    let more : p.shape.degree < how_many p.shape.receivers (receivers_down p) = leb-false (how_many p.shape.receivers (receivers_down p)) p.shape.degree e in
    let n : ℕ = p.shape.receivers in
    let downs : how_many n (receivers_down p) ≡ how_many n p.down = how_many_same n (receivers_down p) p.down (λ k a b. down_at p k f.one.no_shift) in
    let sizes : how_many p.shape.dealers p.down ≡ how_many n p.down = ap (λ m. how_many m p.down) f.one.same in
    sym (vanisher_of_same n (receivers_down p) after (within_same n (receivers_down p) after f.seen_after.seen (omega (arith, more, f.seen_after.few, f.degree))))
    ∙ vanisher_of_same n (receivers_down p) p.down (λ k a b. down_at p k f.one.no_shift)
    ∙ ap (λ m. vanisher_of m p.down) (sym f.one.same)
    ∙ vanisher_of_same p.shape.dealers p.down before (within_same p.shape.dealers p.down before f.seen_before.seen (omega (arith, more, downs, sizes, f.seen_before.few, f.degree)))

and_true : (b : Bool) → (b && true) ≡ b
and_true true = refl
and_true false = refl

refreshed_by : (p : Play) (before after : ℕ → Bool) (delta old c s : Fp) (j : ℕ) (b : Bool) → RefreshHides p before after → leb (how_many p.shape.receivers (receivers_down p)) p.shape.degree ≡ b →
    s ≡ sum_to p.shape.dealers (λ i. cond (eqb i (lowest_out p.shape.dealers p.down) && b) (eval (scale_list delta (over_y (gap p before after))) (fe j)) zeroₚ) →
    (old +ₚ rise_in p.shape.dealers before delta j) +ₚ fe j *ₚ (c +ₚ s) ≡ (old +ₚ fe j *ₚ c) +ₚ rise_in p.shape.receivers after delta j
refreshed_by p before after delta old c s j true f e hs =
    let low = lowest_honest p f.proper f.setting f.one in
    let h : List Fp = over_y (gap p before after) in
    let sum : s ≡ delta *ₚ eval h (fe j) =
    hs
    ∙ sum_same p.shape.dealers _ (λ i. cond (eqb i (lowest_out p.shape.dealers p.down)) (eval (scale_list delta h) (fe j)) zeroₚ) (λ i a b. ap (λ t. cond t (eval (scale_list delta h) (fe j)) zeroₚ) (and_true (eqb i (lowest_out p.shape.dealers p.down))))
    ∙ sum_one p.shape.dealers (lowest_out p.shape.dealers p.down) (eval (scale_list delta h) (fe j)) low.from low.to
    ∙ eval-scale delta h (fe j) in
    ap (λ v. (old +ₚ rise_in p.shape.dealers before delta j) +ₚ fe j *ₚ (c +ₚ v)) sum
    ∙ refresh_ring old delta (eval (vanisher_of p.shape.dealers before) (fe j)) (fe j) c (eval h (fe j))
    ∙ ap (λ v. (old +ₚ fe j *ₚ c) +ₚ delta *ₚ v)
    (ap (λ v. eval (vanisher_of p.shape.dealers before) (fe j) +ₚ v) (gap_at p before after (fe j) f.setting) ∙ back_ring (eval (vanisher_of p.shape.dealers before) (fe j)) (eval (vanisher_of p.shape.receivers after) (fe j)))
refreshed_by p before after delta old c s j false f e hs =
    let none : s ≡ zeroₚ =
    hs
    ∙ sum_zero p.shape.dealers _ (λ i a b. ap (λ t. cond t (eval (scale_list delta (over_y (gap p before after))) (fe j)) zeroₚ) (and_right (eqb i (lowest_out p.shape.dealers p.down)) false refl)) in
    ap (λ v. (old +ₚ rise_in p.shape.dealers before delta j) +ₚ fe j *ₚ (c +ₚ v)) none
    ∙ still_ring old delta (eval (vanisher_of p.shape.dealers before) (fe j)) (fe j) c
    ∙ ap (λ zs. (old +ₚ fe j *ₚ c) +ₚ delta *ₚ eval zs (fe j)) (sym (full_same p before after f e))

pub refresh_translates : RefreshTranslates
refresh_translates p before after difference f =
    let q : Play = translated_phase Refreshed p before after difference in
    let got = products_look_same p (λ i. is_translated Refreshed p.shape p.down (dealer_of i)) (factor_in_x p.shape p.down) (λ i. factor_in_y Refreshed p.shape before after (difference (lane_of i)) (dealer_of i)) f.proper
    (refresh_hides p before after difference f) in
    record {
      views = views_from p q _ f.no_checks got;
      shares = λ l j old new l5 s e.
          ap₂ (λ a b. a +ₚ fe j *ₚ b) e
          (created_more p q (λ i l. cond (is_translated Refreshed p.shape p.down i) (eval (factor_in_y Refreshed p.shape before after (difference l) i) (fe j)) zeroₚ) l j l5 refl (λ i lt. got.shares i j lt s))
          ∙ refreshed_by p before after (difference l) old (created_share p l j) _ j (leb (how_many p.shape.receivers (receivers_down p)) p.shape.degree) f refl refl;
    }
