-- The first choices again, by the difference back; and that the views are there, and one list alone.
use Rattle.std.proofs.Common.{inl, inr, ◌≡◌, ℕ, zero, suc, ◌<◌, Bool, true, false, cond, List, [], length, refl, sym, ap, ap₂, ◌∙◌, arith}
use Rattle.std.proofs.lemmas.Bool.{cases_lt}
use Rattle.std.specs.List.{flat_map}
use Rattle.algebra61.specs.Field.{zeroₚ, Fp, fe, ◌+ₚ◌, ◌*ₚ◌, negₚ}
use Rattle.algebra61.specs.Poly.{eval, coeff, scale_list}
use Rattle.algebra61.specs.Grid.{add_product}
use Rattle.algebra61.proofs.Ring.{zero_add, dif-same, difs, by_dif2, by_dif3}
use Rattle.algebra61.proofs.PolyOps.{sub_list, length-scale}
use Rattle.algebra61.proofs.Dual.{coeff-scale}
use Rattle.bivar61.specs.Grids.{IsGrid}
use Rattle.sizes.specs.Instances.{dealer_of, lane_of}
use Rattle.talk.specs.declared.messages.Post.{Post}
use Rattle.talk.specs.declared.messages.Ring.{Ring}
use Rattle.talk.specs.Shape.{Shape, instances}
use Rattle.plays.specs.Play.{Play}
use Rattle.plays.specs.Said.{places}
use Rattle.plays.proofs.Ends.{lane_below}
use Rattle.plays.proofs.Steps.{flat_same}
use Rattle.histories61.specs.Phases.{Kind, Created, Refreshed, Moved}
use Rattle.histories61.specs.Course.{Course, IsHistoryBy, IsPeriodPolynomial}
use Rattle.histories61.proofs.Lists.{cond_same, map_same}
use Rattle.histories61.proofs.Polynomials.{history_has_key, one_polynomial}
use Rattle.histories61.proofs.Errors.{one_share}
use Rattle.choices61.specs.Sets.{vanisher_of, over_y}
use Rattle.choices61.specs.Views.{posts_in_phase, rings_in_phase, ViewLists, exposed_shares}
use Rattle.choices61.specs.Translation.{factor_in_x, factor_in_y, is_translated, translated_phase}
use Rattle.choices61.specs.Other.{exposed_before, other_course}
use Rattle.choices61.specs.Laws.{ViewsAreThere, OneView, GridsKeepForm, BackAgain}
use Rattle.choices61.proofs.Fits.{HidesIn, hides_at}
use Rattle.choices61.proofs.Squares.{product_again, square_added}

-- ---- the factor for the opposite difference
neg_ring : (a c : Fp) → negₚ a *ₚ c ≡ negₚ (a *ₚ c)
neg_ring = by_dif2 _ (λ m n. simp difs (dif-same _ _ _ _ (omega arith)))

neg_ring_left : (z a c : Fp) → (z *ₚ negₚ a) *ₚ c ≡ negₚ ((z *ₚ a) *ₚ c)
neg_ring_left = by_dif3 _ (λ m n k. simp difs (dif-same _ _ _ _ (omega arith)))

opposite_scale : (a : Fp) (w : List Fp) (b : ℕ) → coeff (scale_list (negₚ a) w) b ≡ negₚ (coeff (scale_list a w) b)
opposite_scale a w b = coeff-scale (negₚ a) w b ∙ neg_ring a (coeff w b) ∙ ap negₚ (sym (coeff-scale a w b))

opposite_factor : (kind : Kind) (s : Shape) (before after : ℕ → Bool) (delta : Fp) (i b : ℕ) → coeff (factor_in_y kind s before after (negₚ delta) i) b ≡ negₚ (coeff (factor_in_y kind s before after delta i) b)
opposite_factor Created s before after delta i b = opposite_scale delta (vanisher_of s.receivers after) b
opposite_factor Refreshed s before after delta i b = opposite_scale delta (over_y (sub_list (vanisher_of s.receivers after) (vanisher_of s.dealers before))) b
opposite_factor Moved s before after delta i b =
    let z : Fp = eval (vanisher_of s.dealers before) (fe i) in
    let w : List Fp = vanisher_of s.receivers after in
    coeff-scale (z *ₚ negₚ delta) w b ∙ neg_ring_left z delta (coeff w b) ∙ ap negₚ (sym (coeff-scale (z *ₚ delta) w b))

length-opposite : (kind : Kind) (s : Shape) (before after : ℕ → Bool) (delta : Fp) (i : ℕ) → length (factor_in_y kind s before after (negₚ delta) i) ≡ length (factor_in_y kind s before after delta i)
length-opposite Created s before after delta i = length-scale (negₚ delta) (vanisher_of s.receivers after) ∙ sym (length-scale delta (vanisher_of s.receivers after))
length-opposite Refreshed s before after delta i =
    let w : List Fp = over_y (sub_list (vanisher_of s.receivers after) (vanisher_of s.dealers before)) in length-scale (negₚ delta) w ∙ sym (length-scale delta w)
length-opposite Moved s before after delta i =
    let z : Fp = eval (vanisher_of s.dealers before) (fe i) in
    let w : List Fp = vanisher_of s.receivers after in
    length-scale (z *ₚ negₚ delta) w ∙ sym (length-scale (z *ₚ delta) w)

back_ring : (a b : Fp) → b ≡ (a +ₚ b) +ₚ negₚ a
back_ring = by_dif2 _ (λ m n. simp difs (dif-same _ _ _ _ (omega arith)))

-- what adds up to 0 with a difference is the opposite one
opposite_of : (a b : Fp) → a +ₚ b ≡ zeroₚ → b ≡ negₚ a
opposite_of a b e = back_ring a b ∙ ap (λ v. v +ₚ negₚ a) e ∙ zero_add (negₚ a)

-- ---- a phase
-- a grid to which the same product is added and taken again
back_by : (kind : Kind) (p : Play) (before after : ℕ → Bool) (difference back : ℕ → Fp) (i : ℕ) (b : Bool) → is_translated kind p.shape p.down (dealer_of i) ≡ b → HidesIn kind p before after difference → i < instances p.shape →
    back (lane_of i) ≡ negₚ (difference (lane_of i)) → (p.down (dealer_of i) ≡ false → IsGrid p.shape.degree (p.grid i)) →
    cond b (add_product (cond b (add_product (p.grid i) (factor_in_x p.shape p.down) (factor_in_y kind p.shape before after (difference (lane_of i)) (dealer_of i))) (p.grid i)) (factor_in_x p.shape p.down) (factor_in_y kind p.shape before after (back (lane_of i)) (dealer_of i)))
    (cond b (add_product (p.grid i) (factor_in_x p.shape p.down) (factor_in_y kind p.shape before after (difference (lane_of i)) (dealer_of i))) (p.grid i)) ≡ p.grid i
back_by kind p before after difference back i true e hd lt opp square =
    let delta : Fp = difference (lane_of i) in
    let k : ℕ = dealer_of i in
    ap (λ d. add_product (add_product (p.grid i) (factor_in_x p.shape p.down) (factor_in_y kind p.shape before after delta k)) (factor_in_x p.shape p.down) (factor_in_y kind p.shape before after d k)) opp
    ∙ product_again p.shape.degree (p.grid i) (factor_in_x p.shape p.down) (factor_in_y kind p.shape before after delta k) (factor_in_y kind p.shape before after (negₚ delta) k) (square (hd.honest i lt e)) (hd.short_x i lt e) (hd.short_y i lt e)
    (omega (arith, length-opposite kind p.shape before after delta k, hd.short_y i lt e)) (λ b. opposite_factor kind p.shape before after delta k b)
back_by kind p before after difference back i false e hd lt opp square = refl

-- a grid of its form keeps it
form_by : (kind : Kind) (p : Play) (before after : ℕ → Bool) (difference : ℕ → Fp) (i : ℕ) (b : Bool) → is_translated kind p.shape p.down (dealer_of i) ≡ b → HidesIn kind p before after difference → i < instances p.shape →
    IsGrid p.shape.degree (p.grid i) →
    IsGrid p.shape.degree (cond b (add_product (p.grid i) (factor_in_x p.shape p.down) (factor_in_y kind p.shape before after (difference (lane_of i)) (dealer_of i))) (p.grid i))
form_by kind p before after difference i true e hd lt square =
    square_added p.shape.degree (p.grid i) (factor_in_x p.shape p.down) (factor_in_y kind p.shape before after (difference (lane_of i)) (dealer_of i)) square (hd.short_x i lt e) (hd.short_y i lt e)
form_by kind p before after difference i false e hd lt square = square

-- ---- a history
pub grids_keep_form : GridsKeepForm
grids_keep_form course errors difference is k i lt li up square =
    form_by (course.kind k) (course.play k) (exposed_before course k) (course.exposed k) difference i (is_translated (course.kind k) (course.play k).shape (course.play k).down (dealer_of i)) refl
    (hides_at course errors difference is k lt) li square

-- the sets before a phase are the same in the other choices
before_same : (course : Course) (difference : ℕ → Fp) (k : ℕ) → exposed_before (other_course course difference) k ≡ exposed_before course k
before_same course difference zero = refl
before_same course difference (suc k) = refl

pub back_again : BackAgain
back_again course errors difference back is opp k i lt li square =
    ap (λ before. (translated_phase (course.kind k) ((other_course course difference).play k) before (course.exposed k) back).grid i) (before_same course difference k)
    ∙ back_by (course.kind k) (course.play k) (exposed_before course k) (course.exposed k) difference back i (is_translated (course.kind k) (course.play k).shape (course.play k).down (dealer_of i)) refl
    (hides_at course errors difference is k lt) li (opposite_of (difference (lane_of i)) (back (lane_of i)) (opp (lane_of i) (lane_below i))) square

-- ---- one list of views
same_parts : (v w : ViewLists) → v.posts ≡ w.posts → v.rings ≡ w.rings → v.shares ≡ w.shares → v ≡ w
same_parts v w ep er es =
    ap₂ (λ (ps : List Post) (rs : List Ring). let x : ViewLists = record { posts = ps; rings = rs; shares = v.shares } in x) ep er
    ∙ ap (λ (ss : List Fp). let x : ViewLists = record { posts = w.posts; rings = w.rings; shares = ss } in x) es

-- a period polynomial is one whichever error vectors are named
under_other : (course : Course) (errors more : ℕ → List (List Fp)) → IsHistoryBy course errors → IsHistoryBy course more → (k l : ℕ) (q : List Fp) → k < course.phases →
    IsPeriodPolynomial course more k l q → IsPeriodPolynomial course errors k l q
under_other course errors more is js k l q lt x = record {
  short = x.short;
  values = λ j s. one_share course errors more course.phases is.fits js.fits k l j lt ∙ x.values j s;
}

pub one_view : OneView
one_view course errors more v w is js hv hw =
    same_parts v w (hv.posts_are ∙ sym hw.posts_are) (hv.rings_are ∙ sym hw.rings_are)
    (hv.shares_are
    ∙ flat_same _ _ course.phases 0
    (λ k k0 kn. flat_same _ _ (course.play k).shape.receivers 1
    (λ i i1 im. cond_same (course.exposed k i) _ _ _ _
    (λ e. map_same _ _ 5 0
    (λ l l0 l5. one_polynomial course errors course.phases is.fits k l (omega (arith, kn)) (hv.polynomial k l) (hw.polynomial k l) (hv.is_polynomial k l (omega (arith, kn)) l5)
    (under_other course errors more is js k l (hw.polynomial k l) (omega (arith, kn)) (hw.is_polynomial k l (omega (arith, kn)) l5)) (fe i))) refl))
    ∙ sym hw.shares_are)

-- ---- there are views
pub views_are_there : ViewsAreThere
views_are_there course errors is =
    let pick : (k l : ℕ) → (q : List Fp) × (k < course.phases → l < 5 → IsPeriodPolynomial course errors k l q) = λ k l.
    elim (cases_lt k course.phases) [
      | inl lt ↦ elim (cases_lt l 5) [
        | inl l5 ↦ let got = (history_has_key course errors is l l5).2 k lt in (got.0, λ a b. got.1)
        | inr past ↦ ([], λ a b. absurd (omega (arith, past, b)))
      ]
      | inr past ↦ ([], λ a b. absurd (omega (arith, past, a)))
    ] in (
      record {
        posts = flat_map (λ k. posts_in_phase (course.play k)) (places course.phases);
        rings = flat_map (λ k. rings_in_phase (course.play k)) (places course.phases);
        shares = exposed_shares course (λ k l. (pick k l).0);
      },
      record { posts_are = refl; rings_are = refl; polynomial = λ k l. (pick k l).0; is_polynomial = λ k l lt l5. (pick k l).1 lt l5; shares_are = refl },
    )
