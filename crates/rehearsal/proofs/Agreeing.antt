-- What lists of phases tell alike whose first phases are the same.
use Rattle.std.proofs.Common.{◌≡◌, ℕ, zero, suc, ◌<◌, List, [], Option, sym, ap₂, ◌∙◌, subst, arith}
use Rattle.algebra61.specs.Field.{Fp}
use Rattle.histories61.specs.Phases.{FirstFits, Moved, NextFits}
use Rattle.histories61.specs.Course.{FitsTo, HasErrors, PhaseFits, share_after_phase}
use Rattle.playback.specs.declared.phase.Phase.{Phase}
use Rattle.playback.specs.Recorded.{kind_of, play_of}
use Rattle.playback.specs.Kept.{IsKept}
use Rattle.playback.specs.Shares.{shares_by}
use Rattle.viewshift.specs.Listed.{course_of, phase_at}
use Rattle.viewshift.specs.Fits.{FitsAt}
use Rattle.viewshift.specs.Walk.{AreLeft, IsAt}
use Rattle.rehearsal_laws.proofs.One.{AgreeTo, same_shares}

pub agree_back : (phases others : List Phase) (n : ℕ) → AgreeTo phases others n → AgreeTo others phases n
agree_back phases others n agree place lt = sym (agree place lt)

pub agree_less : (phases others : List Phase) (n m : ℕ) → m < suc n → AgreeTo phases others n → AgreeTo phases others m
agree_less phases others n m less agree place lt = agree place (omega (arith, lt, less))

-- which share a member has after a phase
shares_same : (phases others : List Phase) (errors : ℕ → List (List Fp)) (last : ℕ) → AgreeTo phases others (suc last) →
    share_after_phase (course_of phases []) errors last ≡ share_after_phase (course_of others []) errors last
shares_same phases others errors last agree = λ i lane member. same_shares phases others errors last agree lane member i

-- whether a phase may stand where it stands
phase_fits : (phases others : List Phase) (errors : ℕ → List (List Fp)) (k : ℕ) → AgreeTo phases others (suc k) →
    PhaseFits (course_of phases []) errors k → PhaseFits (course_of others []) errors k
phase_fits phases others errors zero agree fits = subst (λ (p : Phase). FirstFits (kind_of p.kind) (play_of p)) (agree 0 (omega arith)) fits
phase_fits phases others errors (suc k) agree fits =
    subst (λ (share : ℕ → ℕ → Fp). NextFits (kind_of (phase_at others (suc k)).kind) (play_of (phase_at others k)) (play_of (phase_at others (suc k))) share)
    (shares_same phases others errors k (agree_less phases others (suc (suc k)) (suc k) (omega arith) agree))
    (subst (λ (p : Phase). NextFits (kind_of p.kind) (play_of (phase_at others k)) (play_of p) (share_after_phase (course_of phases []) errors k)) (agree (suc k) (omega arith))
    (subst (λ (p : Phase). NextFits (kind_of (phase_at phases (suc k)).kind) (play_of p) (play_of (phase_at phases (suc k))) (share_after_phase (course_of phases []) errors k)) (agree k (omega arith)) fits))

pub fits_to : (phases others : List Phase) (errors : ℕ → List (List Fp)) (n : ℕ) → AgreeTo phases others n →
    FitsTo (course_of phases []) errors n → FitsTo (course_of others []) errors n
fits_to phases others errors n agree fits = record {
  phases_fit = λ k lt. phase_fits phases others errors k (agree_less phases others n (suc k) (omega (arith, lt)) agree) (fits.phases_fit k lt);
  have_errors = λ k lt. subst (λ (p : Phase). kind_of p.kind ≡ Moved → HasErrors (play_of p) (errors k)) (agree k lt) (fits.have_errors k lt);
}

pub fits_at : (phases others : List Phase) (k : ℕ) → AgreeTo phases others (suc k) → FitsAt phases k → FitsAt others k
fits_at phases others k agree fits = record {
  kept = subst IsKept (agree k (omega arith)) fits.kept;
  fits = λ errors before.
      phase_fits phases others errors k agree
      (fits.fits errors (fits_to others phases errors k (agree_back phases others k (agree_less phases others (suc k) k (omega arith) agree)) before));
}

-- which shares the phases leave
left_at : (phases others : List Phase) (n : ℕ) (shares : List (Option (List Fp))) → AgreeTo phases others n →
    AreLeft (course_of phases []) n shares → AreLeft (course_of others []) n shares
left_at phases others zero shares agree left = tt
left_at phases others (suc k) shares agree left = λ errors fits.
    left errors (fits_to others phases errors (suc k) (agree_back phases others (suc k) agree) fits)
    ∙ ap₂ (λ (p : Phase) (share : ℕ → ℕ → Fp). shares_by (play_of p) share) (agree k (omega arith)) (shares_same phases others errors k agree)

pub is_at : (phases others : List Phase) (n : ℕ) (shares : List (Option (List Fp))) → AgreeTo phases others n → IsAt phases n shares → IsAt others n shares
is_at phases others n shares agree at = record {
  each = λ k lt. fits_at phases others k (agree_less phases others n (suc k) (omega (arith, lt)) agree) (at.each k lt);
  left = left_at phases others n shares agree at.left;
}
