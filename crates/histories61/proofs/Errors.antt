-- The error vectors of a history's moves, and so the shares, are determined.
use Rattle.std.proofs.Common.{◌≡◌, ℕ, zero, suc, ◌<◌, List, [], ◌∷◌, length, get_or, refl, sym, ap, ap₂, ◌∙◌, arith}
use Rattle.algebra61.specs.Field.{Fp}
use Rattle.sizes.specs.Committees.{IsCommittee}
use Rattle.plays.specs.Play.{Play}
use Rattle.periods.specs.Refresh.{refreshed_share}
use Rattle.periods.specs.Move.{moved_share}
use Rattle.periods.proofs.Moving.{one_lane_error}
use Rattle.histories61.specs.Phases.{Kind, Created, Refreshed, Moved, NextFits}
use Rattle.histories61.specs.Course.{HasErrors, next_share, share_after_phase}
use Rattle.histories61.specs.Laws.{OneErrors, OneShare}
use Rattle.histories61.proofs.Fits.{is_move, committee_at}

pub same_entries : {A : Type 0} (d : A) (xs ys : List A) → length xs ≡ length ys → ((k : ℕ) → k < length xs → get_or xs k d ≡ get_or ys k d) → xs ≡ ys
same_entries d [] [] l h = refl
same_entries d [] (y ∷ ys) l h = absurd (omega (arith, l))
same_entries d (x ∷ xs) [] l h = absurd (omega (arith, l))
same_entries {A} d (x ∷ xs) (y ∷ ys) l h =
    ap₂ (λ (a : A) (as_ : List A). a ∷ as_) (h 0 (omega arith)) (same_entries d xs ys (omega (arith, l)) (λ k lt. h (suc k) (omega (arith, lt))))

errors_next : (kind : Kind) (old p : Play) (share : ℕ → ℕ → Fp) → kind ≡ Moved → NextFits kind old p share → IsCommittee old.shape.receivers old.shape.bound →
    (es fs : List (List Fp)) → HasErrors p es → HasErrors p fs → es ≡ fs
errors_next Created old p share e f cm es fs he hf = absurd f
errors_next Refreshed old p share e f cm es fs he hf = let differ : Refreshed ≡ Moved = e in cc
errors_next Moved old p share e f cm es fs he hf =
    same_entries [] es fs (he.five ∙ sym hf.five)
    (λ l lt. one_lane_error old.shape.bound p l (get_or es l []) (get_or fs l []) (is_move old p share f cm) (he.each l (omega (arith, lt, he.five))) (hf.each l (omega (arith, lt, he.five))))

pub one_errors : OneErrors
one_errors course errors other n fits more zero lt e =
    let differ : Created ≡ Moved = sym (fits.phases_fit 0 lt).create ∙ e in cc
one_errors course errors other n fits more (suc k) lt e =
    errors_next (course.kind (suc k)) (course.play k) (course.play (suc k)) (share_after_phase course errors k) e (fits.phases_fit (suc k) lt) (committee_at course errors n fits k (omega (arith, lt)))
    (errors (suc k)) (other (suc k)) (fits.have_errors (suc k) lt e) (more.have_errors (suc k) lt e)

next_same : (kind : Kind) (p : Play) (l j : ℕ) (es fs : List (List Fp)) (a b : Fp) → (kind ≡ Moved → es ≡ fs) → a ≡ b → next_share kind p l (get_or es l []) j a ≡ next_share kind p l (get_or fs l []) j b
next_same Created p l j es fs a b he e = refl
next_same Refreshed p l j es fs a b he e = ap (refreshed_share p l j) e
next_same Moved p l j es fs a b he e = ap (λ (xs : List (List Fp)). moved_share p l (get_or xs l []) j) (he refl)

pub one_share : OneShare
one_share course errors other n fits more zero l j lt = refl
one_share course errors other n fits more (suc k) l j lt =
    next_same (course.kind (suc k)) (course.play (suc k)) l j (errors (suc k)) (other (suc k)) (share_after_phase course errors k l j) (share_after_phase course other k l j)
    (λ e. one_errors course errors other n fits more (suc k) lt e) (one_share course errors other n fits more k l j (omega (arith, lt)))
