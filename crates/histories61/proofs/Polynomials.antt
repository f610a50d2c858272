-- The polynomials of the periods: one for each, and all with one value at 0.
use Rattle.std.proofs.Common.{◌≡◌, ℕ, zero, suc, ◌+◌, ◌-◌, ◌*◌, ◌<◌, ◌≤◌, Bool, false, not, List, [], ◌∷◌, length, get_or, map, refl, sym, ap, ◌∙◌, arith}
use Rattle.std.proofs.lemmas.Bool.{not-true}
use Rattle.algebra61.specs.Field.{Fp, Prime, fe, zeroₚ, ◌-ₚ◌}
use Rattle.algebra61.specs.Poly.{eval, Outside, Distinct, AllRoots}
use Rattle.algebra61.proofs.Ring.{sub_self}
use Rattle.algebra61.proofs.PolyOps.{sub_list, eval-sub}
use Rattle.algebra61.proofs.Grid.{same_everywhere}
use Rattle.algebra61.proofs.Ext.{fe_apart}
use Rattle.sizes.specs.Committees.{IsCommittee}
use Rattle.sharing61.specs.Count.{how_many}
use Rattle.sharing61.proofs.Count.{picked, length-picked, how_many_not}
use Rattle.sharing61.proofs.Team.{Each, each_picked, Falling, falling_picked}
use Rattle.talk.specs.Shape.{Shape}
use Rattle.plays.specs.Play.{Play, created_share}
use Rattle.plays.specs.Law.{FewDown}
use Rattle.plays.proofs.Lanes.{created_line}
use Rattle.periods.specs.Laws.{LieOn}
use Rattle.periods.proofs.Refreshing.{refresh_keeps}
use Rattle.histories61.specs.Phases.{Kind, Created, Refreshed, Moved, receivers_down, NextFits}
use Rattle.histories61.specs.Course.{Course, HasErrors, next_share, share_after_phase, FitsTo}
use Rattle.histories61.specs.Laws.{HistoryHasKey, PhasesHaveKey, OnePolynomial, OneKey, KeyStays, MovesHaveErrors}
use Rattle.histories61.proofs.Fits.{proper_first, proper_refresh, refresh_degree, is_move, honest_before, honest_old, committee_at, few_at}
use Rattle.histories61.proofs.Moving.{moved_polynomial, errors_of_move}

-- ---- one polynomial
pub length-points : (ks : List ℕ) → length (map fe ks) ≡ length ks
length-points [] = refl
length-points (k ∷ ks) = ap suc (length-points ks)

outside_points : (n : ℕ) (ks : List ℕ) → n < Prime → Each (λ j. j < n) ks → Outside (fe n) (map fe ks)
outside_points n [] h e = tt
outside_points n (k ∷ ks) h e = (fe_apart k n e.0 h, outside_points n ks h e.1)

pub distinct_points : (ks : List ℕ) → Falling ks → Each (λ j. j < Prime) ks → Distinct (map fe ks)
distinct_points [] f h = tt
distinct_points (k ∷ ks) f h = (outside_points k ks h.0 f.0, distinct_points ks f.1 h.1)

pub roots_at : (p : List Fp) (ks : List ℕ) → Each (λ j. eval p (fe j) ≡ zeroₚ) ks → AllRoots p (map fe ks)
roots_at p [] e = tt
roots_at p (k ∷ ks) e = (e.0, roots_at p ks e.1)

-- two short polynomials that agree at each number that isn't down are one
pub same_by_honest : (n t : ℕ) (down : ℕ → Bool) (q r : List Fp) → n < Prime → 2 * t < n → how_many n down ≤ t → length q ≤ t + 1 → length r ≤ t + 1 →
    ((j : ℕ) → 1 ≤ j → j ≤ n → down j ≡ false → eval q (fe j) ≡ eval r (fe j)) → (x : Fp) → eval q x ≡ eval r x
same_by_honest n t down q r np third few lq lr h x =
    let ks : List ℕ = picked n (λ j. not (down j)) in
    let size : length (map fe ks) ≡ length ks = length-points ks in
    let many : t + 1 ≤ length (map fe ks) = omega (arith, size, length-picked n (λ j. not (down j)), how_many_not n down, few, third) in
    same_everywhere q r (map fe ks) (distinct_points ks (falling_picked n (λ j. not (down j))) (each_picked (λ j. j < Prime) n (λ j. not (down j)) (λ k a b e. omega (arith, b, np))))
    (omega (arith, many, lq)) (omega (arith, many, lr))
    (roots_at (sub_list q r) ks
    (each_picked (λ j. eval (sub_list q r) (fe j) ≡ zeroₚ) n (λ j. not (down j))
    (λ k a b e. eval-sub q r (fe k) ∙ ap (λ v. v -ₚ eval r (fe k)) (h k a b (not-true (down k) e)) ∙ sub_self (eval r (fe k)))))
    x

-- so the honest receivers' values lie on one alone
one_through : (p : Play) (value : ℕ → Fp) (q r : List Fp) → IsCommittee p.shape.receivers p.shape.bound → FewDown p → LieOn p p.shape.bound value q → LieOn p p.shape.bound value r → (x : Fp) → eval q x ≡ eval r x
one_through p value q r c few hq hr x =
    same_by_honest p.shape.receivers p.shape.bound (receivers_down p) q r (omega (arith, c.most)) (omega (arith, c.third)) few hq.short hr.short
    (λ j a b up. sym (hq.values j (record { from = a; to = b; up = up })) ∙ hr.values j (record { from = a; to = b; up = up })) x

pub one_polynomial : OnePolynomial
one_polynomial course errors n fits k l lt q r hq hr x =
    one_through (course.play k) (share_after_phase course errors k l) q r (committee_at course errors n fits k lt) (few_at course errors n fits k lt) hq hr x

pub one_key : OneKey
one_key course l c d f hc hd =
    hc.2 ∙ one_through (course.play 0) (created_share (course.play 0) l) hc.0 hd.0 f.committee f.few hc.1 hd.1 zeroₚ ∙ sym hd.2

-- ---- one value at 0
-- the shares after a phase lie on one polynomial, whose value at 0 is c
record ShareBy (p : Play) (share : ℕ → Fp) (c : Fp) : Type 0 where
  polynomial : List Fp
  lie : LieOn p p.shape.bound share polynomial
  at_zero : eval polynomial zeroₚ ≡ c

by_degree : (p : Play) (d : ℕ) (share : ℕ → Fp) (q : List Fp) → d ≡ p.shape.bound → LieOn p d share q → LieOn p p.shape.bound share q
by_degree p d share q e lie = record { short = omega (arith, lie.short, e); values = lie.values }

share_next : (kind : Kind) (old p : Play) (share : ℕ → ℕ → Fp) (l : ℕ) (errors : List (List Fp)) (c : Fp) → l < 5 → NextFits kind old p share → IsCommittee old.shape.receivers old.shape.bound →
    (kind ≡ Moved → HasErrors p errors) → ShareBy old (share l) c → ShareBy p (λ j. next_share kind p l (get_or errors l []) j (share l j)) c
share_next Created old p share l errors c l5 f cm er by = absurd f
share_next Refreshed old p share l errors c l5 f cm er by =
    let degree : p.shape.degree + 1 ≡ p.shape.bound = refresh_degree old p f cm in
    let bound : p.shape.bound ≡ old.shape.bound = ap (λ (s : Shape). s.bound) f.setting in
    let got = refresh_keeps p l (share l) by.polynomial (proper_refresh old p f) l5
    (record { short = omega (arith, by.lie.short, bound, degree); values = λ j s. by.lie.values j (honest_before old p f j s) }) in
    record { polynomial = got.0; lie = by_degree p (p.shape.degree + 1) _ got.0 degree got.2; at_zero = got.1 ∙ by.at_zero }
share_next Moved old p share l errors c l5 f cm er by =
    let got = moved_polynomial old.shape.bound l p by.polynomial (get_or errors l []) (is_move old p share f cm) l5 by.lie.short
    (λ i a b up. f.constants i l a b l5 up ∙ by.lie.values i (honest_old old p share f i a b up)) f.few_old ((er refl).each l l5) in
    record { polynomial = got.0; lie = by_degree p p.shape.degree _ got.0 (ap (λ (s : Shape). s.degree) f.setting) got.2; at_zero = got.1 ∙ by.at_zero }

module _ (course : Course) (errors : ℕ → List (List Fp)) (n : ℕ) (fits : FitsTo course errors (suc n)) (l : ℕ) (l5 : l < 5) where
  first_polynomial : (q : List Fp) × LieOn (course.play 0) (course.play 0).shape.bound (created_share (course.play 0) l) q
  first_polynomial =
      let f = fits.phases_fit 0 (omega arith) in
      let got = created_line (course.play 0) l (proper_first (course.kind 0) (course.play 0) f) l5 in
      (got.0, by_degree (course.play 0) (course.play 0).shape.degree (created_share (course.play 0) l) got.0 (ap (λ (s : Shape). s.degree) f.setting) (record { short = got.1; values = got.2 }))

  share_at : (k : ℕ) → k ≤ n → ShareBy (course.play k) (share_after_phase course errors k l) (eval first_polynomial.0 zeroₚ)
  share_at zero le = record { polynomial = first_polynomial.0; lie = first_polynomial.1; at_zero = refl }
  share_at (suc k) le =
      let lt : suc k < suc n = omega (arith, le) in
      share_next (course.kind (suc k)) (course.play k) (course.play (suc k)) (share_after_phase course errors k) l (errors (suc k)) (eval first_polynomial.0 zeroₚ) l5
      (fits.phases_fit (suc k) lt) (committee_at course errors (suc n) fits k (omega (arith, lt))) (λ e. fits.have_errors (suc k) lt e) (share_at k (omega (arith, le)))

pub phases_have_key : PhasesHaveKey
phases_have_key course errors n fits l l5 = (
  eval (first_polynomial course errors n fits l l5).0 zeroₚ,
  ((first_polynomial course errors n fits l l5).0, (first_polynomial course errors n fits l l5).1, refl),
  λ k le.
      let got = share_at course errors n fits l l5 k le in
      (got.polynomial, got.lie, got.at_zero),
)

fits_less : (course : Course) (errors : ℕ → List (List Fp)) (n m : ℕ) → m ≤ n → FitsTo course errors n → FitsTo course errors m
fits_less course errors n m le fits = record {
  phases_fit = λ k lt. fits.phases_fit k (omega (arith, lt, le));
  have_errors = λ k lt e. fits.have_errors k (omega (arith, lt, le)) e;
}

pub history_has_key : HistoryHasKey
history_has_key course errors is l l5 =
    let n : ℕ = course.phases - 1 in
    let got = phases_have_key course errors n (fits_less course errors course.phases (suc n) (omega (arith, is.some_phase)) is.fits) l l5 in
    (got.0, got.1, λ k lt. got.2 k (omega (arith, lt)))

pub key_stays : KeyStays
key_stays course errors n fits k l lt l5 c q hc hq =
    let got = phases_have_key course errors k (fits_less course errors n (suc k) (omega (arith, lt)) fits) l l5 in
    let mine = got.2 k (omega arith) in
    one_polynomial course errors n fits k l lt q mine.0 hq mine.1 zeroₚ
    ∙ mine.2
    ∙ one_key course l got.0 c (fits.phases_fit 0 (omega (arith, lt))) got.1 hc

-- ---- a move has its error vectors
errors_there : (kind : Kind) (old p : Play) (share : ℕ → ℕ → Fp) (c : (l : ℕ) → l < 5 → Fp) → kind ≡ Moved → NextFits kind old p share → IsCommittee old.shape.receivers old.shape.bound →
    ((l : ℕ) (l5 : l < 5) → ShareBy old (share l) (c l l5)) → (found : List (List Fp)) × HasErrors p found
errors_there Created old p share c e f cm by = absurd f
errors_there Refreshed old p share c e f cm by = let differ : Refreshed ≡ Moved = e in cc
errors_there Moved old p share c e f cm by =
    errors_of_move old.shape.bound p (is_move old p share f cm) f.few_old
    (λ l l5. (by l l5).polynomial) (λ l l5. (by l l5).lie.short)
    (λ l l5 i a b up. f.constants i l a b l5 up ∙ (by l l5).lie.values i (honest_old old p share f i a b up))

pub moves_have_errors : MovesHaveErrors
moves_have_errors course errors n fits f e =
    errors_there (course.kind (suc n)) (course.play n) (course.play (suc n)) (share_after_phase course errors n) (λ l l5. eval (first_polynomial course errors n fits l l5).0 zeroₚ) e f
    (committee_at course errors (suc n) fits n (omega arith)) (λ l l5. share_at course errors n fits l l5 n (omega arith))
