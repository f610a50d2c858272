-- The views of a history, phase by phase.
use Rattle.std.proofs.Common.{◌≡◌, ℕ, suc, ◌+◌, ◌<◌, ◌≤◌, ◌++◌, List, [], length, map, get_or, Option, refl, sym, ap, ◌∙◌, subst, arith, add-one}
use Rattle.std.specs.List.{flat_map}
use Rattle.algebra61.specs.Field.{Fp, fe}
use Rattle.algebra61.specs.Poly.{eval}
use Rattle.algebra61.specs.Polynomial.{Polynomial, poly}
use Rattle.talk.specs.declared.messages.Post.{Post}
use Rattle.talk.specs.declared.messages.Ring.{Ring}
use Rattle.talk.specs.Sync.{has}
use Rattle.talk.proofs.Places.{places_step}
use Rattle.plays.specs.Said.{places}
use Rattle.plays.proofs.Steps.{flat_same}
use Rattle.histories61.specs.Course.{FitsTo, IsPeriodPolynomial}
use Rattle.histories61.proofs.Lists.{cond_same, map_same}
use Rattle.choices61.specs.Views.{posts_in_phase, rings_in_phase, shares_at}
use Rattle.choices61.proofs.Again.{views_are_there}
use Rattle.playback.specs.declared.phase.Phase.{Phase}
use Rattle.playback.specs.declared.played.Played.{Played}
use Rattle.playback.specs.Recorded.{play_of}
use Rattle.playback.specs.Shares.{IsPlayed}
use Rattle.viewshift.specs.declared.views.Views.{Views}
use Rattle.viewshift.specs.Listed.{phase_at, mask_at, course_of}
use Rattle.viewshift.specs.Fits.{AreHistory}
use Rattle.viewshift.specs.Walk.{IsAt}
use Rattle.viewshift.specs.Through.{coeffs_in, AreThrough}
use Rattle.viewshift.specs.Seen.{shares_seen, seen_after, AreSeen, HasViews}
use Rattle.viewshift.proofs.Standing.{fits_less, with_masks, polynomial_with_masks, lists_are_history}
use Rattle.viewshift.proofs.Keys.{period_value}

-- ---- one phase more
-- the interpolants give what the period polynomials give
seen_same : (phases : List Phase) (exposed : List ℕ) (k : ℕ) (shares : List (Option (List Fp))) (polynomials : List Polynomial) (errors : ℕ → List (List Fp)) (polynomial : ℕ → ℕ → List Fp) →
    IsAt phases (suc k) shares → AreThrough shares polynomials → FitsTo (course_of phases []) errors (suc k) → ((lane : ℕ) → lane < 5 → IsPeriodPolynomial (course_of phases []) errors k lane (polynomial k lane)) →
    shares_seen (phase_at phases k).setting.receivers (mask_at exposed k) (coeffs_in polynomials) ≡ seen_after phases exposed polynomial k
seen_same phases exposed k shares polynomials errors polynomial at through fits are =
    flat_same (shares_at (coeffs_in polynomials) (has (mask_at exposed k))) (shares_at (polynomial k) (has (mask_at exposed k))) (phase_at phases k).setting.receivers 1
    (λ member from to. cond_same (has (mask_at exposed k) member) _ _ _ _
    (λ e. map_same _ _ 5 0 (λ lane l0 l5. sym (period_value phases k lane shares (get_or polynomials lane (poly [])) errors (polynomial k lane) (fe member) (omega (arith, l5)) at (through.through lane (omega (arith, l5))) fits (are lane (omega (arith, l5)))))) refl)

pub seen_more : (phases : List Phase) (exposed : List ℕ) (k members mask : ℕ) (played : Played) (shares : List (Option (List Fp))) (polynomials : List Polynomial) (old new : Views) → IsPlayed (play_of (phase_at phases k)) played →
    IsAt phases (k + 1) shares → AreThrough shares polynomials → members ≡ (phase_at phases k).setting.receivers → mask ≡ mask_at exposed k → AreSeen phases exposed k old → new.posts ≡ old.posts ++ played.posts → new.rings ≡ old.rings ++ played.rings →
    new.shares ≡ old.shares ++ shares_seen members mask (coeffs_in polynomials) → AreSeen phases exposed (k + 1) new
seen_more phases exposed k members mask played shares polynomials old new is at through em ek seen ep er es =
    let one : k + 1 ≡ suc k = add-one k in
    let left : IsAt phases (suc k) shares = subst (λ n. IsAt phases n shares) one at in
    record {
      posts_are = places_step (λ j. posts_in_phase (play_of (phase_at phases j))) k old.posts new.posts seen.posts_are (ep ∙ ap (λ (l : List Post). old.posts ++ l) is.posts_are);
      rings_are = places_step (λ j. rings_in_phase (play_of (phase_at phases j))) k old.rings new.rings seen.rings_are (er ∙ ap (λ (l : List Ring). old.rings ++ l) is.rings_are);
      shares_are = λ errors polynomial fits are.
          places_step (seen_after phases exposed polynomial) k old.shares new.shares
          (seen.shares_are errors polynomial (fits_less (course_of phases []) errors (k + 1) k (omega arith) fits) (λ j lane lt l5. are j lane (omega (arith, lt)) l5))
          (es
          ∙ ap (λ (l : List Fp). old.shares ++ l)
          (ap (λ (n : ℕ). shares_seen n mask (coeffs_in polynomials)) em
          ∙ ap (λ (m : ℕ). shares_seen (phase_at phases k).setting.receivers m (coeffs_in polynomials)) ek
          ∙ seen_same phases exposed k shares polynomials errors polynomial left through (subst (FitsTo (course_of phases []) errors) one fits) (λ lane l5. are k lane (omega arith) l5)));
    }

-- ---- all phases
pub all_seen : (phases : List Phase) (exposed : List ℕ) (views : Views) → AreHistory phases exposed → AreSeen phases exposed (length phases) views → HasViews (course_of phases exposed) views
all_seen phases exposed views are seen =
    let is = lists_are_history phases exposed are in
    let some = (views_are_there (course_of phases exposed) is.0 is.1).1 in (
      is.0,
      is.1,
      record {
        posts_are = seen.posts_are;
        rings_are = seen.rings_are;
        polynomial = some.polynomial;
        is_polynomial = some.is_polynomial;
        shares_are = seen.shares_are is.0 some.polynomial (with_masks phases exposed [] is.0 (length phases) is.1.fits)
            (λ k lane lt l5. polynomial_with_masks phases exposed [] is.0 k lane (some.polynomial k lane) (some.is_polynomial k lane lt l5));
      },
    )
