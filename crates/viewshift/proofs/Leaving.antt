-- The shares that a phase leaves.
use Rattle.std.proofs.Common.{◌≡◌, ℕ, zero, suc, ◌+◌, ◌-◌, ◌<◌, List, [], length, map, get_or, Option, Some, None, sym, ap, ◌∙◌, subst, arith, add-one}
use Rattle.std.proofs.lemmas.Bool.{cond-false}
use Rattle.std.proofs.lemmas.List.FromFn.{get_or-map-range_with_len}
use Rattle.algebra61.specs.Field.{Fp}
use Rattle.talk.specs.Shape.{Shape}
use Rattle.plays.specs.Play.{Play, created_share}
use Rattle.plays.specs.Said.{places}
use Rattle.periods.specs.Refresh.{refreshed_share}
use Rattle.periods.specs.Move.{syndromes_heard, HaveErrors, IsMove, moved_share}
use Rattle.periods.proofs.Moving.{one_lane_error}
use Rattle.histories61.specs.Phases.{Kind, Created, Refreshed, Moved, receivers_down, RefreshFits, MoveFits, NextFits}
use Rattle.histories61.specs.Course.{Course, HasErrors, next_share, share_after_phase, FitsTo}
use Rattle.histories61.proofs.Fits.{is_move, committee_at, honest_before}
use Rattle.histories61.proofs.Errors.{same_entries}
use Rattle.histories61.proofs.Polynomials.{moves_have_errors}
use Rattle.playback.specs.declared.phase.PhaseKind.TheVariants.{Create, Refresh, Move}
use Rattle.playback.specs.declared.phase.Phase.{Phase}
use Rattle.playback.specs.Recorded.{kind_of, play_of}
use Rattle.playback.specs.Shares.{AreMoved, HasBefore, shares_at, shares_by}
use Rattle.viewshift.specs.Listed.{phase_at, course_of}
use Rattle.viewshift.specs.Fits.{FitsAt}
use Rattle.viewshift.specs.Walk.{AreLeft, IsAt}
use Rattle.viewshift.proofs.Standing.{together, fits_less, each_more, all_there}

at_more : (phases : List Phase) (k : ℕ) (shares : List (Option (List Fp))) → ((j : ℕ) → j < k → FitsAt phases j) → FitsAt phases k → AreLeft (course_of phases []) (suc k) shares → IsAt phases (k + 1) shares
at_more phases k shares each fits left =
    let one : k + 1 ≡ suc k = add-one k in
    subst (λ n. IsAt phases n shares) (sym one) (record { each = λ j lt. each_more phases k each fits j (omega (arith, lt, one)); left = left })

-- ---- a create
created_next : (kind : Kind) (p : Play) (share : ℕ → ℕ → Fp) (errors : List (List Fp)) → kind ≡ Created → shares_by p (created_share p) ≡ shares_by p (λ lane receiver. next_share kind p lane (get_or errors lane []) receiver (share lane receiver))
created_next kind p share errors e =
    sym (ap (λ (kd : Kind). shares_by p (λ lane receiver. next_share kd p lane (get_or errors lane []) receiver (share lane receiver))) e)

created_left : (course : Course) (k : ℕ) (shares : List (Option (List Fp))) → course.kind k ≡ Created → shares ≡ shares_by (course.play k) (created_share (course.play k)) → AreLeft course (suc k) shares
created_left course zero shares e is = λ errors fits. is
created_left course (suc k) shares e is =
    λ errors fits. is ∙ created_next (course.kind (suc k)) (course.play (suc k)) (share_after_phase course errors k) (errors (suc k)) e

pub left_created : (phases : List Phase) (place : ℕ) (p : Phase) (shares before : List (Option (List Fp))) → p ≡ phase_at phases place → p.kind ≡ Create → FitsAt phases place → IsAt phases place before →
    shares ≡ shares_by (play_of p) (created_share (play_of p)) → IsAt phases (place + 1) shares
left_created phases place p shares before e kind fits at is =
    at_more phases place shares at.each fits
    (created_left (course_of phases []) place shares (ap (λ (q : Phase). kind_of q.kind) (sym e) ∙ ap kind_of kind)
    (subst (λ (q : Phase). shares ≡ shares_by (play_of q) (created_share (play_of q))) e is))

-- ---- a refresh
refresh_of : (kind : Kind) (old p : Play) (share : ℕ → ℕ → Fp) → kind ≡ Refreshed → NextFits kind old p share → RefreshFits old p
refresh_of Created old p share e f = absurd f
refresh_of Refreshed old p share e f = f
refresh_of Moved old p share e f = let differ : Moved ≡ Refreshed = e in cc

-- the first phase is no refresh, and no move
first_kind : (phases : List Phase) (kind : Kind) → FitsAt phases 0 → kind_of (phase_at phases 0).kind ≡ kind → Created ≡ kind
first_kind phases kind f e =
    sym (f.fits (λ k. []) (record { phases_fit = λ k lt. absurd (omega (arith, lt)); have_errors = λ k lt. absurd (omega (arith, lt)) })).create ∙ e

-- who goes on had a share
had_before : (old p : Play) (share : ℕ → ℕ → Fp) (shares : List (Option (List Fp))) → RefreshFits old p → shares ≡ shares_by old share → HasBefore p.shape.receivers (receivers_down p) share shares
had_before old p share shares f is member from to up =
    let was = honest_before old p f member (record { from = from; to = to; up = up }) in
    ap (λ (l : List (Option (List Fp))). get_or l (member - 1) None) is
    ∙ get_or-map-range_with_len (shares_at old share) 1 old.shape.receivers (member - 1) member None (omega (arith, from, was.to)) (omega (arith, from))
    ∙ cond-false (receivers_down old member) None (Some (map (λ lane. share lane member) (places 5))) was.up

refreshed_next : (kind : Kind) (p : Play) (share : ℕ → ℕ → Fp) (errors : List (List Fp)) → kind ≡ Refreshed →
    shares_by p (λ lane receiver. refreshed_share p lane receiver (share lane receiver)) ≡ shares_by p (λ lane receiver. next_share kind p lane (get_or errors lane []) receiver (share lane receiver))
refreshed_next kind p share errors e =
    sym (ap (λ (kd : Kind). shares_by p (λ lane receiver. next_share kd p lane (get_or errors lane []) receiver (share lane receiver))) e)

refreshed_left : (phases : List Phase) (place : ℕ) (shares before : List (Option (List Fp))) → kind_of (phase_at phases place).kind ≡ Refreshed → FitsAt phases place → IsAt phases place before →
    ((share : ℕ → ℕ → Fp) → HasBefore (phase_at phases place).setting.receivers (receivers_down (play_of (phase_at phases place))) share before →
    shares ≡ shares_by (play_of (phase_at phases place)) (λ lane receiver. refreshed_share (play_of (phase_at phases place)) lane receiver (share lane receiver))) →
    AreLeft (course_of phases []) (suc place) shares
refreshed_left phases zero shares before e f at is = let differ : Created ≡ Refreshed = first_kind phases Refreshed f e in cc
refreshed_left phases (suc k) shares before e f at is =
    λ errors fits.
    let less = fits_less (course_of phases []) errors (suc (suc k)) (suc k) (omega arith) fits in
    let share : ℕ → ℕ → Fp = share_after_phase (course_of phases []) errors k in
    is share
    (had_before (play_of (phase_at phases k)) (play_of (phase_at phases (suc k))) share before
    (refresh_of (kind_of (phase_at phases (suc k)).kind) (play_of (phase_at phases k)) (play_of (phase_at phases (suc k))) share e (f.fits errors less))
    (at.left errors less))
    ∙ refreshed_next (kind_of (phase_at phases (suc k)).kind) (play_of (phase_at phases (suc k))) share (errors (suc k)) e

pub left_refreshed : (phases : List Phase) (place : ℕ) (p : Phase) (shares before : List (Option (List Fp))) → p ≡ phase_at phases place → p.kind ≡ Refresh → FitsAt phases place → IsAt phases place before →
    ((share : ℕ → ℕ → Fp) → HasBefore p.setting.receivers (receivers_down (play_of p)) share before →
    shares ≡ shares_by (play_of p) (λ lane receiver. refreshed_share (play_of p) lane receiver (share lane receiver))) →
    IsAt phases (place + 1) shares
left_refreshed phases place p shares before e kind fits at is =
    at_more phases place shares at.each fits
    (refreshed_left phases place shares before (ap (λ (q : Phase). kind_of q.kind) (sym e) ∙ ap kind_of kind) fits at
    (subst (λ (q : Phase). (share : ℕ → ℕ → Fp) → HasBefore q.setting.receivers (receivers_down (play_of q)) share before →
    shares ≡ shares_by (play_of q) (λ lane receiver. refreshed_share (play_of q) lane receiver (share lane receiver))) e is))

-- as many shares as members
refresh_size : (phases : List Phase) (place : ℕ) (before : List (Option (List Fp))) → kind_of (phase_at phases place).kind ≡ Refreshed → FitsAt phases place → IsAt phases place before →
    length before ≡ (phase_at phases place).setting.receivers
refresh_size phases zero before e f at = let differ : Created ≡ Refreshed = first_kind phases Refreshed f e in cc
refresh_size phases (suc k) before e f at =
    let got = together phases (suc k) at.each in
    let is = refresh_of (kind_of (phase_at phases (suc k)).kind) (play_of (phase_at phases k)) (play_of (phase_at phases (suc k))) (share_after_phase (course_of phases []) got.0 k) e (f.fits got.0 got.1) in
    let z : k ≡ suc k - 1 = omega arith in
    all_there phases (suc k) (phase_at phases k) before (omega arith) (ap (phase_at phases) z) at
    ∙ sym (ap (λ (s : Shape). s.receivers) is.setting)

pub size_refreshed : (phases : List Phase) (place : ℕ) (p : Phase) (before : List (Option (List Fp))) → p ≡ phase_at phases place → p.kind ≡ Refresh → FitsAt phases place → IsAt phases place before →
    length before ≡ p.setting.receivers
size_refreshed phases place p before e kind fits at =
    refresh_size phases place before (ap (λ (q : Phase). kind_of q.kind) (sym e) ∙ ap kind_of kind) fits at
    ∙ ap (λ (q : Phase). q.setting.receivers) (sym e)

-- ---- a move
move_of : (kind : Kind) (old p : Play) (share : ℕ → ℕ → Fp) → kind ≡ Moved → NextFits kind old p share → MoveFits old p share
move_of Created old p share e f = absurd f
move_of Refreshed old p share e f = let differ : Refreshed ≡ Moved = e in cc
move_of Moved old p share e f = f

-- a move that fits, with its errors
record Moving (p : Play) : Type 0 where
  bound : ℕ
  is : IsMove bound p
  found : List (List Fp)
  errors : HaveErrors p.shape (syndromes_heard p) found

moving_by : (phases : List Phase) (place : ℕ) (errors : ℕ → List (List Fp)) → kind_of (phase_at phases place).kind ≡ Moved → FitsAt phases place → FitsTo (course_of phases []) errors place → Moving (play_of (phase_at phases place))
moving_by phases zero errors e f fits = let differ : Created ≡ Moved = first_kind phases Moved f e in cc
moving_by phases (suc k) errors e f fits =
    let now = f.fits errors fits in
    let is = move_of (kind_of (phase_at phases (suc k)).kind) (play_of (phase_at phases k)) (play_of (phase_at phases (suc k))) (share_after_phase (course_of phases []) errors k) e now in
    let got = moves_have_errors (course_of phases []) errors k fits now e in
    record {
      bound = (phase_at phases k).setting.bound;
      is = is_move (play_of (phase_at phases k)) (play_of (phase_at phases (suc k))) (share_after_phase (course_of phases []) errors k) is (committee_at (course_of phases []) errors (suc k) fits k (omega arith));
      found = got.0;
      errors = got.1;
    }

moving_there : (phases : List Phase) (place : ℕ) (p : Phase) → p ≡ phase_at phases place → p.kind ≡ Move → ((k : ℕ) → k < place → FitsAt phases k) → FitsAt phases place → Moving (play_of p)
moving_there phases place p e kind each fits =
    let got = together phases place each in
    subst (λ (q : Phase). Moving (play_of q)) (sym e)
    (moving_by phases place got.0 (ap (λ (q : Phase). kind_of q.kind) (sym e) ∙ ap kind_of kind) fits got.1)

pub moving_at : (phases : List Phase) (place : ℕ) (p : Phase) → p ≡ phase_at phases place → p.kind ≡ Move → ((k : ℕ) → k < place → FitsAt phases k) → FitsAt phases place → (bound : ℕ) × IsMove bound (play_of p)
moving_at phases place p e kind each fits = let got = moving_there phases place p e kind each fits in (got.bound, got.is)

pub errors_at : (phases : List Phase) (place : ℕ) (p : Phase) → p ≡ phase_at phases place → p.kind ≡ Move → ((k : ℕ) → k < place → FitsAt phases k) → FitsAt phases place →
    (errors : List (List Fp)) × HaveErrors p.setting (syndromes_heard (play_of p)) errors
errors_at phases place p e kind each fits = let got = moving_there phases place p e kind each fits in (got.found, got.errors)

same_errors : (bound : ℕ) (p : Play) (es fs : List (List Fp)) → IsMove bound p → HasErrors p es → HasErrors p fs → es ≡ fs
same_errors bound p es fs is he hf =
    same_entries [] es fs (he.five ∙ sym hf.five)
    (λ l lt. one_lane_error bound p l (get_or es l []) (get_or fs l []) is (he.each l (omega (arith, lt, he.five))) (hf.each l (omega (arith, lt, he.five))))

moved_next : (kind : Kind) (p : Play) (share : ℕ → ℕ → Fp) (es fs : List (List Fp)) → kind ≡ Moved → es ≡ fs →
    shares_by p (λ lane receiver. moved_share p lane (get_or es lane []) receiver) ≡ shares_by p (λ lane receiver. next_share kind p lane (get_or fs lane []) receiver (share lane receiver))
moved_next kind p share es fs e same =
    ap (λ (xs : List (List Fp)). shares_by p (λ lane receiver. moved_share p lane (get_or xs lane []) receiver)) same
    ∙ sym (ap (λ (kd : Kind). shares_by p (λ lane receiver. next_share kd p lane (get_or fs lane []) receiver (share lane receiver))) e)

moved_left : (phases : List Phase) (place : ℕ) (shares : List (Option (List Fp))) → kind_of (phase_at phases place).kind ≡ Moved → FitsAt phases place → AreMoved (play_of (phase_at phases place)) shares → AreLeft (course_of phases []) (suc place) shares
moved_left phases zero shares e f is = let differ : Created ≡ Moved = first_kind phases Moved f e in cc
moved_left phases (suc k) shares e f is =
    λ errors fits.
    let less = fits_less (course_of phases []) errors (suc (suc k)) (suc k) (omega arith) fits in
    let got = moving_by phases (suc k) errors e f less in
    is.2
    ∙ moved_next (kind_of (phase_at phases (suc k)).kind) (play_of (phase_at phases (suc k))) (share_after_phase (course_of phases []) errors k) is.0 (errors (suc k)) e
    (same_errors got.bound (play_of (phase_at phases (suc k))) is.0 (errors (suc k)) got.is is.1 (fits.have_errors (suc k) (omega arith) e))

pub left_moved : (phases : List Phase) (place : ℕ) (p : Phase) (shares before : List (Option (List Fp))) → p ≡ phase_at phases place → p.kind ≡ Move → FitsAt phases place → IsAt phases place before → AreMoved (play_of p) shares → IsAt phases (place + 1) shares
left_moved phases place p shares before e kind fits at is =
    at_more phases place shares at.each fits
    (moved_left phases place shares (ap (λ (q : Phase). kind_of q.kind) (sym e) ∙ ap kind_of kind) fits
    (subst (λ (q : Phase). AreMoved (play_of q) shares) e is))
