-- What phases that fit are, and when the next one fits.
use Rattle.std.proofs.Common.{inl, inr, ◌≡◌, ℕ, zero, suc, ◌+◌, ◌-◌, ◌<◌, ◌≤◌, ◌↔◌, Bool, true, false, List, [], length, get_or, slice_get, Option, Some, refl, sym, ap, ◌∙◌, subst, arith}
use Rattle.std.proofs.lemmas.Bool.{cases_eq}
use Rattle.std.proofs.lemmas.List.FromFn.{length-map-range_with_len}
use Rattle.lists.proofs.Places.{at_or}
use Rattle.algebra61.specs.Field.{Fp}
use Rattle.sizes.specs.Committees.{IsCommittee}
use Rattle.talk.specs.Shape.{Lawful, rounds}
use Rattle.plays.specs.Play.{Play}
use Rattle.moveshare.specs.Seat.{IsMoving}
use Rattle.periods.specs.Laws.{LieOn}
use Rattle.histories61.specs.Phases.{Kind, Created, Refreshed, Moved, FirstFits, NextFits}
use Rattle.histories61.specs.Course.{Course, next_share, share_after_phase, PhaseFits, FitsTo, IsPeriodPolynomial}
use Rattle.histories61.proofs.Fits.{is_move, committee_at}
use Rattle.histories61.proofs.Making.{phases_fit_together}
use Rattle.playback.specs.declared.phase.Phase.{Phase}
use Rattle.playback.specs.Recorded.{kind_of, play_of}
use Rattle.playback.specs.Kept.{IsKept}
use Rattle.playback.specs.Shares.{shares_at, shares_by}
use Rattle.viewshift.specs.Listed.{no_phase, phase_at, course_of}
use Rattle.viewshift.specs.Fits.{FitsAt, ListsAreHistory}
use Rattle.viewshift.specs.Walk.{IsAt}

-- the phase that a list gives at a place
pub phase_is : (phases : List Phase) (place : ℕ) (p : Phase) → slice_get phases place ≡ Some p → p ≡ phase_at phases place
phase_is phases place p e = at_or phases place no_phase p e

-- ---- error vectors
-- phases that fit have some
pub together : (phases : List Phase) (n : ℕ) → ((k : ℕ) → k < n → FitsAt phases k) → (errors : ℕ → List (List Fp)) × FitsTo (course_of phases []) errors n
together phases n each = phases_fit_together (course_of phases []) n (λ k lt errors fits. (each k lt).fits errors fits)

pub fits_less : (course : Course) (errors : ℕ → List (List Fp)) (n m : ℕ) → m ≤ n → FitsTo course errors n → FitsTo course errors m
fits_less course errors n m le fits = record {
  phases_fit = λ k lt. fits.phases_fit k (omega (arith, lt, le));
  have_errors = λ k lt e. fits.have_errors k (omega (arith, lt, le)) e;
}

-- one more
pub each_more : (phases : List Phase) (n : ℕ) → ((k : ℕ) → k < n → FitsAt phases k) → FitsAt phases n → (k : ℕ) → k < n + 1 → FitsAt phases k
each_more phases n each fits k lt =
    elim (cases_eq k n) [
      | inl e ↦ subst (FitsAt phases) (sym e) fits
      | inr ne ↦ each k (omega (arith, lt, ne))
    ]

pub each_to : (phases : List Phase) (n : ℕ) → ((k : ℕ) → k ≤ n → FitsAt phases k) → (k : ℕ) → k < suc n → FitsAt phases k
each_to phases n each k lt = each k (omega (arith, lt))

pub each_with : (phases : List Phase) (n : ℕ) → ((k : ℕ) → k < n → FitsAt phases k) → FitsAt phases n → (k : ℕ) → k ≤ n → FitsAt phases k
each_with phases n each fits k le = each_more phases n each fits k (omega (arith, le))

-- ---- the settings
lawful_next : (kind : Kind) (old p : Play) (share : ℕ → ℕ → Fp) → NextFits kind old p share → Lawful p.shape
lawful_next Created old p share f = absurd f
lawful_next Refreshed old p share f = f.play_is.setting
lawful_next Moved old p share f = f.play_is.setting

lawful_by : (course : Course) (errors : ℕ → List (List Fp)) (k : ℕ) → PhaseFits course errors k → Lawful (course.play k).shape
lawful_by course errors zero f = f.play_is.setting
lawful_by course errors (suc k) f = lawful_next (course.kind (suc k)) (course.play k) (course.play (suc k)) (share_after_phase course errors k) f

pub lawful_at : (phases : List Phase) (k : ℕ) → ((j : ℕ) → j ≤ k → FitsAt phases j) → Lawful (phase_at phases k).setting
lawful_at phases k each =
    let got = together phases (suc k) (each_to phases k each) in
    lawful_by (course_of phases []) got.0 k (got.1.phases_fit k (omega arith))

-- only a move has a sixth round
sixth_next : (kind : Kind) (old p : Play) (share : ℕ → ℕ → Fp) → NextFits kind old p share → IsCommittee old.shape.receivers old.shape.bound → rounds p.shape ≡ 6 → IsMoving p.shape
sixth_next Created old p share f cm six = absurd f
sixth_next Refreshed old p share f cm six = let five : 5 ≡ 6 = sym (ap rounds f.setting) ∙ six in absurd (omega (arith, five))
sixth_next Moved old p share f cm six = (old.shape.bound, (is_move old p share f cm).two)

sixth_by : (course : Course) (errors : ℕ → List (List Fp)) (k : ℕ) → FitsTo course errors (suc k) → rounds (course.play k).shape ≡ 6 → IsMoving (course.play k).shape
sixth_by course errors zero fits six =
    let five : 5 ≡ 6 = sym (ap rounds (fits.phases_fit 0 (omega arith)).setting) ∙ six in absurd (omega (arith, five))
sixth_by course errors (suc k) fits six =
    sixth_next (course.kind (suc k)) (course.play k) (course.play (suc k)) (share_after_phase course errors k) (fits.phases_fit (suc k) (omega arith))
    (committee_at course errors (suc (suc k)) fits k (omega arith)) six

pub sixth_at : (phases : List Phase) (k : ℕ) → ((j : ℕ) → j ≤ k → FitsAt phases j) → rounds (phase_at phases k).setting ≡ 6 → IsMoving (phase_at phases k).setting
sixth_at phases k each six =
    let got = together phases (suc k) (each_to phases k each) in
    sixth_by (course_of phases []) got.0 k got.1 six

-- ---- whether a phase fits
first_stands : (phases : List Phase) (b : Bool) → IsKept (phase_at phases 0) → ((b ≡ true) ↔ FirstFits (kind_of (phase_at phases 0).kind) (play_of (phase_at phases 0))) → (b ≡ true) ↔ FitsAt phases 0
first_stands phases b kept is = (
  λ e. record { kept = kept; fits = λ errors fits. is.0 e },
  λ f. is.1 (f.fits (λ k. []) (record { phases_fit = λ k lt. absurd (omega (arith, lt)); have_errors = λ k lt. absurd (omega (arith, lt)) })),
)

pub first_at : (phases : List Phase) (place : ℕ) (p : Phase) (b : Bool) → place ≡ 0 → p ≡ phase_at phases place → IsKept p → ((b ≡ true) ↔ FirstFits (kind_of p.kind) (play_of p)) → (b ≡ true) ↔ FitsAt phases place
first_at phases place p b z e kept is =
    let at : p ≡ phase_at phases 0 = e ∙ ap (phase_at phases) z in
    subst (λ k. (b ≡ true) ↔ FitsAt phases k) (sym z)
    (first_stands phases b (subst IsKept at kept) (subst (λ (q : Phase). (b ≡ true) ↔ FirstFits (kind_of q.kind) (play_of q)) at is))

next_stands : (phases : List Phase) (k : ℕ) (shares : List (Option (List Fp))) (b : Bool) → IsKept (phase_at phases (suc k)) → IsAt phases (suc k) shares →
    ((share : ℕ → ℕ → Fp) → shares ≡ shares_by (play_of (phase_at phases k)) share →
    (b ≡ true) ↔ NextFits (kind_of (phase_at phases (suc k)).kind) (play_of (phase_at phases k)) (play_of (phase_at phases (suc k))) share) →
    (b ≡ true) ↔ FitsAt phases (suc k)
next_stands phases k shares b kept at is = (
  λ e. record { kept = kept; fits = λ errors fits. (is (share_after_phase (course_of phases []) errors k) (at.left errors fits)).0 e },
  λ f.
      let got = together phases (suc k) at.each in
      (is (share_after_phase (course_of phases []) got.0 k) (at.left got.0 got.1)).1 (f.fits got.0 got.1),
)

pub next_at : (phases : List Phase) (place : ℕ) (old p : Phase) (shares : List (Option (List Fp))) (b : Bool) → 1 ≤ place → old ≡ phase_at phases (place - 1) → p ≡ phase_at phases place → IsKept p → IsAt phases place shares →
    ((share : ℕ → ℕ → Fp) → shares ≡ shares_by (play_of old) share → (b ≡ true) ↔ NextFits (kind_of p.kind) (play_of old) (play_of p) share) →
    (b ≡ true) ↔ FitsAt phases place
next_at phases zero old p shares b some eo ep kept at is = absurd (omega (arith, some))
next_at phases (suc k) old p shares b some eo ep kept at is =
    let z : suc k - 1 ≡ k = omega arith in
    let so : old ≡ phase_at phases k = eo ∙ ap (phase_at phases) z in
    next_stands phases k shares b (subst IsKept ep kept) at
    (subst (λ (q : Phase). (share : ℕ → ℕ → Fp) → shares ≡ shares_by (play_of (phase_at phases k)) share → (b ≡ true) ↔ NextFits (kind_of q.kind) (play_of (phase_at phases k)) (play_of q) share) ep
    (subst (λ (q : Phase). (share : ℕ → ℕ → Fp) → shares ≡ shares_by (play_of q) share → (b ≡ true) ↔ NextFits (kind_of p.kind) (play_of q) (play_of p) share) so is))

-- a phase that doesn't keep what it has to doesn't fit
pub refused : (phases : List Phase) (place : ℕ) (p : Phase) (kept : Bool) → p ≡ phase_at phases place → ((kept ≡ true) ↔ IsKept p) → kept ≡ false → (false ≡ true) ↔ FitsAt phases place
refused phases place p kept e is failed = (
  λ differ. cc,
  λ f. sym failed ∙ is.1 (subst IsKept (sym e) f.kept),
)

-- there are shares for all
all_after : (phases : List Phase) (k : ℕ) (shares : List (Option (List Fp))) → IsAt phases (suc k) shares → length shares ≡ (phase_at phases k).setting.receivers
all_after phases k shares at =
    let got = together phases (suc k) at.each in
    ap length (at.left got.0 got.1)
    ∙ length-map-range_with_len (shares_at (play_of (phase_at phases k)) (share_after_phase (course_of phases []) got.0 k)) 1 (phase_at phases k).setting.receivers

pub all_there : (phases : List Phase) (place : ℕ) (old : Phase) (shares : List (Option (List Fp))) → 1 ≤ place → old ≡ phase_at phases (place - 1) → IsAt phases place shares → length shares ≡ old.setting.receivers
all_there phases zero old shares some e at = absurd (omega (arith, some))
all_there phases (suc k) old shares some e at =
    let z : suc k - 1 ≡ k = omega arith in
    all_after phases k shares at ∙ ap (λ (q : Phase). q.setting.receivers) (sym (e ∙ ap (phase_at phases) z))

-- ---- the law
-- who is exposed doesn't matter to the shares
same_shares : (phases : List Phase) (some more : List ℕ) (errors : ℕ → List (List Fp)) (k : ℕ) → share_after_phase (course_of phases some) errors k ≡ share_after_phase (course_of phases more) errors k
same_shares phases some more errors zero = refl
same_shares phases some more errors (suc k) =
    ap (λ (share : ℕ → ℕ → Fp). λ (lane receiver : ℕ). next_share (kind_of (phase_at phases (suc k)).kind) (play_of (phase_at phases (suc k))) lane (get_or (errors (suc k)) lane []) receiver (share lane receiver))
    (same_shares phases some more errors k)

pub fits_same : (phases : List Phase) (some more : List ℕ) (errors : ℕ → List (List Fp)) (k : ℕ) → PhaseFits (course_of phases some) errors k → PhaseFits (course_of phases more) errors k
fits_same phases some more errors zero f = f
fits_same phases some more errors (suc k) f =
    subst (NextFits (kind_of (phase_at phases (suc k)).kind) (play_of (phase_at phases k)) (play_of (phase_at phases (suc k)))) (same_shares phases some more errors k) f

pub with_masks : (phases : List Phase) (some more : List ℕ) (errors : ℕ → List (List Fp)) (n : ℕ) → FitsTo (course_of phases some) errors n → FitsTo (course_of phases more) errors n
with_masks phases some more errors n fits = record {
  phases_fit = λ k lt. fits_same phases some more errors k (fits.phases_fit k lt);
  have_errors = λ k lt e. fits.have_errors k lt e;
}

pub polynomial_with_masks : (phases : List Phase) (some more : List ℕ) (errors : ℕ → List (List Fp)) (k lane : ℕ) (polynomial : List Fp) → IsPeriodPolynomial (course_of phases some) errors k lane polynomial → IsPeriodPolynomial (course_of phases more) errors k lane polynomial
polynomial_with_masks phases some more errors k lane polynomial is =
    subst (λ (share : ℕ → ℕ → Fp). LieOn (play_of (phase_at phases k)) (phase_at phases k).setting.bound (share lane) polynomial) (same_shares phases some more errors k) is

pub lists_are_history : ListsAreHistory
lists_are_history phases exposed are =
    let got = together phases (length phases) are.phases_fit.1 in (
      got.0,
      record {
        some_phase = are.phases_fit.0;
        fits = with_masks phases [] exposed got.0 (length phases) got.1;
        exposed_fit = λ k lt. record { own = (are.masks.masks_fit k lt).names_few.exposure; next = (are.masks.masks_fit k lt).has_next };
      },
    )
