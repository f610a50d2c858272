-- The other phases of a history that is kept are a history again.
use mathlib.Core.Path.{fun_ext}
use Rattle.std.proofs.Common.{inl, inr, ◌≡◌, ℕ, zero, suc, ◌+◌, ◌-◌, ◌*◌, ◌^◌, ◌<◌, ◌≤◌, Bool, true, false, List, [], ◌∷◌, length, map, get_or, All, refl, sym, ap, ap₂, ◌∙◌, subst, arith}
use Rattle.std.proofs.lemmas.Bool.{cases_lt}
use Rattle.std.proofs.lemmas.List.FromFn.{get_or-map-range_with_len, length-map-range_with_len}
use Rattle.algebra61.specs.Field.{Fp}
use Rattle.bivar61.specs.Grids.{IsGrid}
use Rattle.sizes.specs.Instances.{dealer_of, instance_at}
use Rattle.talk.specs.Shape.{Shape, instances}
use Rattle.talk.specs.Sync.{has}
use Rattle.plays.specs.Play.{Play}
use Rattle.plays.specs.Said.{places}
use Rattle.histories61.specs.Phases.{Kind, NextFits}
use Rattle.histories61.specs.Course.{Course, share_after_phase, PhaseFits, FitsTo, IsHistoryBy}
use Rattle.histories61.proofs.Errors.{one_share}
use Rattle.choices61.specs.Translation.{translated_phase}
use Rattle.choices61.specs.Other.{exposed_before, other_course}
use Rattle.choices61.specs.Laws.{IsOtherChoice}
use Rattle.choices61.proofs.Other.{views_fit_every_difference}
use Rattle.choices61.proofs.Again.{grids_keep_form}
use Rattle.playback.specs.declared.phase.Phase.{Phase}
use Rattle.playback.specs.Recorded.{kind_of, play_of, up_to}
use Rattle.playback.specs.Kept.{IsKept}
use Rattle.playback.proofs.Formed.{grid_there}
use Rattle.phaseshift.specs.Shift.{other_grid, other_grids, other_phase}
use Rattle.viewshift.specs.Listed.{no_phase, phase_at, mask_at, course_of}
use Rattle.viewshift.specs.Fits.{FitsAt, IsMaskAfter, MaskFits, AllMasksFit, AreHistory}
use Rattle.viewshift.specs.Others.{other_at, other_phases, OthersAreCourse, OthersAreHistory}
use Rattle.phaseshift.proofs.Translated.{other_phase_is_translated}
use Rattle.viewshift.proofs.Parts.{length-parts, all_parts}
use Rattle.viewshift.proofs.Standing.{fits_same, with_masks, lists_are_history}

-- ---- place by place
past_end : {A : Type 0} (xs : List A) (k : ℕ) (d : A) → length xs ≤ k → get_or xs k d ≡ d
past_end [] k d le = refl
past_end (x ∷ xs) zero d le = absurd (omega (arith, le))
past_end (x ∷ xs) (suc k) d le = past_end xs k d (omega (arith, le))

pub before_is : (phases : List Phase) (exposed : List ℕ) (k : ℕ) → has (mask_at exposed (k - 1)) ≡ exposed_before (course_of phases exposed) k
before_is phases exposed zero = let z : 0 - 1 ≡ 0 = omega arith in ap (λ i. has (mask_at exposed i)) z
before_is phases exposed (suc k) = let z : suc k - 1 ≡ k = omega arith in ap (λ i. has (mask_at exposed i)) z

module _ (phases : List Phase) (exposed : List ℕ) (difference : ℕ → Fp) where
  pub length-others : length (other_phases phases exposed difference) ≡ length phases
  length-others = length-map-range_with_len (other_at phases exposed difference) 0 (length phases)

  -- also past the last phase, where there is none
  pub at_other : (k : ℕ) → phase_at (other_phases phases exposed difference) k ≡ other_at phases exposed difference k
  at_other k =
      elim (cases_lt k (length phases)) [
        | inl lt ↦ get_or-map-range_with_len (other_at phases exposed difference) 0 (length phases) k k no_phase lt (omega arith)
        | inr past ↦
            past_end (other_phases phases exposed difference) k no_phase (omega (arith, length-others, past))
            ∙ sym (ap (λ (p : Phase). other_phase p (has (mask_at exposed (k - 1))) (has (mask_at exposed k)) difference) (past_end phases k no_phase past))
      ]

  -- ---- they are the other choices of the course
  abbrev translated_at : ℕ → Play
  translated_at k = translated_phase (kind_of (phase_at phases k).kind) (play_of (phase_at phases k)) (has (mask_at exposed (k - 1))) (has (mask_at exposed k)) difference

  pub translated_is : (k : ℕ) → translated_phase (kind_of (phase_at phases k).kind) (play_of (phase_at phases k)) (has (mask_at exposed (k - 1))) (has (mask_at exposed k)) difference ≡ (other_course (course_of phases exposed) difference).play k
  translated_is k =
      ap (λ (before : ℕ → Bool). translated_phase (kind_of (phase_at phases k).kind) (play_of (phase_at phases k)) before (has (mask_at exposed k)) difference) (before_is phases exposed k)

  play_is : (k : ℕ) → play_of (phase_at (other_phases phases exposed difference) k) ≡ (other_course (course_of phases exposed) difference).play k
  play_is k =
      ap play_of (at_other k)
      ∙ other_phase_is_translated (phase_at phases k) (has (mask_at exposed (k - 1))) (has (mask_at exposed k)) difference
      ∙ translated_is k

  kind_is : (k : ℕ) → kind_of (phase_at (other_phases phases exposed difference) k).kind ≡ kind_of (phase_at phases k).kind
  kind_is k = ap (λ (p : Phase). kind_of p.kind) (at_other k)

  course_is : course_of (other_phases phases exposed difference) exposed ≡ other_course (course_of phases exposed) difference
  course_is =
      ap₂ (λ (n : ℕ) (kinds : ℕ → Kind). let c : Course = record { phases = n; kind = kinds; play = λ k. play_of (phase_at (other_phases phases exposed difference) k); exposed = λ k. has (mask_at exposed k) } in c) length-others (fun_ext kind_is)
      ∙ ap (λ (plays : ℕ → Play). let c : Course = record { phases = length phases; kind = λ k. kind_of (phase_at phases k).kind; play = plays; exposed = λ k. has (mask_at exposed k) } in c) (fun_ext play_is)

pub others_are_course : OthersAreCourse
others_are_course phases exposed difference = course_is phases exposed difference

-- ---- what each phase keeps
module _ (phases : List Phase) (exposed : List ℕ) (difference : ℕ → Fp) (are : AreHistory phases exposed) where
  form_at : (k : ℕ) → k < length phases → (dealer lane : ℕ) → 1 ≤ dealer → dealer ≤ (phase_at phases k).setting.dealers → has (phase_at phases k).down dealer ≡ false → lane < 5 →
      IsGrid (phase_at phases k).setting.degree (other_grid (phase_at phases k) (has (mask_at exposed (k - 1))) (has (mask_at exposed k)) difference dealer lane)
  form_at k lt dealer lane from to up l5 =
      let p : Phase = phase_at phases k in
      let i : ℕ = instance_at dealer lane in
      let li : i < instances p.setting = omega (arith, from, to, l5) in
      let there : dealer_of i ≡ dealer = omega (arith, from, l5) in
      let honest : has p.down (dealer_of i) ≡ false = ap (has p.down) there ∙ up in
      let is = lists_are_history phases exposed are in
      subst (λ (q : Play). IsGrid p.setting.degree (q.grid i)) (sym (translated_is phases exposed difference k))
      (grids_keep_form (course_of phases exposed) is.0 difference is.1 k i lt li honest (grid_there p (are.phases_fit.1 k lt).kept i li honest))

  kept_at : (k : ℕ) → k < length phases → IsKept (other_at phases exposed difference k)
  kept_at k lt =
      let p : Phase = phase_at phases k in
      let kept = (are.phases_fit.1 k lt).kept in
      record {
        seated = kept.seated;
        number = length-parts (has p.down) (other_grid p (has (mask_at exposed (k - 1))) (has (mask_at exposed k)) difference) p.setting.dealers;
        degrees = all_parts (has p.down) (IsGrid p.setting.degree) (other_grid p (has (mask_at exposed (k - 1))) (has (mask_at exposed k)) difference) p.setting.dealers
            (λ dealer lane from to up l5. form_at k lt dealer lane from to up l5);
        ascending = kept.ascending;
        items = kept.items;
      }

-- ---- where the phases stand
-- whichever error vectors are named, the shares before a phase are the same, so it fits under all of them
fits_under : (course : Course) (errors more : ℕ → List (List Fp)) (k : ℕ) → FitsTo course errors k → FitsTo course more k → PhaseFits course more k → PhaseFits course errors k
fits_under course errors more zero fits other f = f
fits_under course errors more (suc k) fits other f =
    subst (NextFits (course.kind (suc k)) (course.play k) (course.play (suc k)))
    (fun_ext (λ (lane : ℕ). fun_ext (λ (receiver : ℕ). one_share course more errors (suc k) other fits k lane receiver (omega arith)))) f

fits_below : (course : Course) (errors : ℕ → List (List Fp)) (n k : ℕ) → k < n → FitsTo course errors n → FitsTo course errors k
fits_below course errors n k lt fits = record {
  phases_fit = λ j l. fits.phases_fit j (omega (arith, l, lt));
  have_errors = λ j l e. fits.have_errors j (omega (arith, l, lt)) e;
}

fits_of : (phases : List Phase) (exposed : List ℕ) (more : ℕ → List (List Fp)) → FitsTo (course_of phases exposed) more (length phases) → (k : ℕ) → k < length phases →
    (errors : ℕ → List (List Fp)) → FitsTo (course_of phases []) errors k → PhaseFits (course_of phases []) errors k
fits_of phases exposed more all k lt errors fits =
    fits_same phases exposed [] errors k
    (fits_under (course_of phases exposed) errors more k (with_masks phases [] exposed errors k fits) (fits_below (course_of phases exposed) more (length phases) k lt all) (all.phases_fit k lt))

-- ---- the masks
mask_after : (p : Phase) (grids : List (List (List Fp))) (mask : ℕ) → IsMaskAfter p mask → IsMaskAfter (record p { grids = grids }) mask
mask_after p grids mask is = record { own = is.own; exposure = record { few = is.exposure.few; seen = is.exposure.seen } }

module _ (phases : List Phase) (exposed : List ℕ) (difference : ℕ → Fp) where
  mask_fits_at : (k : ℕ) → MaskFits phases exposed k → MaskFits (other_phases phases exposed difference) exposed k
  mask_fits_at k fits = record {
    names_few =
        subst (λ (q : Phase). IsMaskAfter q (mask_at exposed k)) (sym (at_other phases exposed difference k))
        (mask_after (phase_at phases k) (other_grids (phase_at phases k) (has (mask_at exposed (k - 1))) (has (mask_at exposed k)) difference) (mask_at exposed k) fits.names_few);
    has_next = λ lt member from to down.
        let size : (phase_at (other_phases phases exposed difference) k).setting.receivers ≡ (phase_at phases k).setting.receivers = ap (λ (q : Phase). q.setting.receivers) (at_other phases exposed difference k) in
        fits.has_next (omega (arith, lt, length-others phases exposed difference)) member from (omega (arith, to, size))
        (sym (ap (λ (q : Phase). has q.down member) (at_other phases exposed difference (suc k))) ∙ down);
  }

-- ---- a history again
pub other_choice : (phases : List Phase) (exposed : List ℕ) (difference : ℕ → Fp) (errors : ℕ → List (List Fp)) → IsHistoryBy (course_of phases exposed) errors →
    IsOtherChoice (course_of phases exposed) errors difference (course_of (other_phases phases exposed difference) exposed)
other_choice phases exposed difference errors is =
    subst (IsOtherChoice (course_of phases exposed) errors difference) (sym (course_is phases exposed difference)) (views_fit_every_difference (course_of phases exposed) errors difference is)

pub others_are_history : OthersAreHistory
others_are_history phases exposed difference are =
    let is = lists_are_history phases exposed are in
    let others : List Phase = other_phases phases exposed difference in
    let again = (other_choice phases exposed difference is.0 is.1).history in
    let long = length-others phases exposed difference in
    record {
      phases_fit = (
        omega (arith, long, are.phases_fit.0),
        λ k lt. record {
          kept = subst IsKept (sym (at_other phases exposed difference k)) (kept_at phases exposed difference are k (omega (arith, lt, long)));
          fits = fits_of others exposed is.0 again.fits k lt;
        },
      );
      masks = record {
        masks_fit = λ k lt. mask_fits_at phases exposed difference k (are.masks.masks_fit k (omega (arith, lt, long)));
        no_more = omega (arith, long, are.masks.no_more);
      };
    }
