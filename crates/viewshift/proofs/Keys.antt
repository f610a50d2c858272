-- The key of a history, from the shares of its first phase.
use Rattle.std.proofs.Common.{◌≡◌, ℕ, zero, suc, ◌+◌, ◌-◌, ◌*◌, ◌<◌, ◌≤◌, List, [], length, map, get_or, Option, sym, ap, ◌∙◌, subst, arith, add-one}
use Rattle.std.proofs.lemmas.List.FromFn.{get_or-map-range_with_len, length-map-range_with_len}
use Rattle.algebra61.specs.Field.{Fp, zeroₚ}
use Rattle.algebra61.specs.Poly.{eval}
use Rattle.algebra61.specs.Polynomial.{Polynomial, poly}
use Rattle.poly61.specs.Points.{pairs, IsThrough}
use Rattle.plays.specs.Said.{places}
use Rattle.histories61.specs.Phases.{receivers_down}
use Rattle.histories61.specs.Course.{Course, share_after_phase, FitsTo, IsPeriodPolynomial, IsKey}
use Rattle.histories61.proofs.Fits.{committee_at, few_at}
use Rattle.histories61.proofs.Polynomials.{one_key, history_has_key, key_stays}
use Rattle.playback.specs.declared.phase.Phase.{Phase}
use Rattle.playback.specs.Recorded.{play_of}
use Rattle.playback.specs.Shares.{shares_at}
use Rattle.viewshift.specs.Listed.{phase_at, course_of}
use Rattle.viewshift.specs.Fits.{AreHistory, FitsAt}
use Rattle.viewshift.specs.Walk.{IsAt}
use Rattle.viewshift.specs.Through.{shared_points, coeffs_in, AreThrough}
use Rattle.viewshift.specs.Key.{HasKey}
use Rattle.viewshift.proofs.Standing.{together, lists_are_history}
use Rattle.viewshift.proofs.Meeting.{meets}

-- ---- the polynomials of a period
-- as many shares as members, so few enough
few_left : (phases : List Phase) (k : ℕ) (shares : List (Option (List Fp))) → IsAt phases (suc k) shares → length shares ≤ 15
few_left phases k shares at =
    let got = together phases (suc k) at.each in
    let size : length shares ≡ (phase_at phases k).setting.receivers =
    ap length (at.left got.0 got.1) ∙ length-map-range_with_len (shares_at (play_of (phase_at phases k)) (share_after_phase (course_of phases []) got.0 k)) 1 (phase_at phases k).setting.receivers in
    omega (arith, size, (committee_at (course_of phases []) got.0 (suc k) got.1 k (omega arith)).most)

pub few_after : (phases : List Phase) (k : ℕ) (shares : List (Option (List Fp))) → IsAt phases (k + 1) shares → length shares ≤ 30
few_after phases k shares at = omega (arith, few_left phases k shares (subst (λ (n : ℕ). IsAt phases n shares) (add-one k) at))

-- the interpolant of the shares that a phase leaves is the polynomial of the period
pub period_value : (phases : List Phase) (k lane : ℕ) (shares : List (Option (List Fp))) (r : Polynomial) (errors : ℕ → List (List Fp)) (q : List Fp) (x : Fp) → lane < 5 → IsAt phases (suc k) shares →
    IsThrough (pairs (shared_points lane 1 shares)) r → FitsTo (course_of phases []) errors (suc k) → IsPeriodPolynomial (course_of phases []) errors k lane q → eval q x ≡ eval r.coeffs x
period_value phases k lane shares r errors q x l5 at through fits is =
    let cm = committee_at (course_of phases []) errors (suc k) fits k (omega arith) in
    meets (receivers_down (play_of (phase_at phases k))) (share_after_phase (course_of phases []) errors k) (phase_at phases k).setting.receivers (phase_at phases k).setting.bound lane q r x l5
    (omega (arith, cm.most)) (omega (arith, cm.third)) (few_at (course_of phases []) errors (suc k) fits k (omega arith)) is.short
    (λ j from to up. is.values j (record { from = from; to = to; up = up }))
    (subst (λ (l : List (Option (List Fp))). IsThrough (pairs (shared_points lane 1 l)) r) (at.left errors fits) through)

-- ---- the key
-- the values at 0 in the first period are those in all
pub key_by : (course : Course) (key : List Fp) → ((lane : ℕ) → lane < 5 → IsKey course lane (get_or key lane zeroₚ)) → HasKey course key
key_by course key first = record {
  first = first;
  lie = λ errors is phase lane lt l5.
      let got = history_has_key course errors is lane l5 in
      let mine = got.2 phase lt in
      (mine.0, mine.1, mine.2 ∙ one_key course lane got.0 (get_or key lane zeroₚ) (is.fits.phases_fit 0 (omega (arith, is.some_phase))) got.1 (first lane l5));
  stays = λ errors is phase lane lt l5 polynomial on. key_stays course errors course.phases is.fits phase lane lt l5 (get_or key lane zeroₚ) polynomial (first lane l5) on;
}

pub key_is : (phases : List Phase) (exposed : List ℕ) (shares : List (Option (List Fp))) (polynomials : List Polynomial) (key : List Fp) → AreHistory phases exposed → IsAt phases 1 shares → AreThrough shares polynomials →
    key ≡ map (λ lane. eval (coeffs_in polynomials lane) zeroₚ) (places 5) → HasKey (course_of phases exposed) key
key_is phases exposed shares polynomials key are at through e =
    let is = lists_are_history phases exposed are in
    let fits = together phases 1 at.each in
    key_by (course_of phases exposed) key
    (λ lane l5.
    let got = (history_has_key (course_of phases exposed) is.0 is.1 lane l5).1 in (
      got.0,
      got.1,
      ap (λ (l : List Fp). get_or l lane zeroₚ) e
          ∙ get_or-map-range_with_len (λ l. eval (coeffs_in polynomials l) zeroₚ) 0 5 lane lane zeroₚ l5 (omega arith)
          ∙ sym (period_value phases 0 lane shares (get_or polynomials lane (poly [])) fits.0 got.0 zeroₚ l5 at (through.through lane l5) fits.1 got.1),
    ))
