-- The phases of a rehearsal are a history.
use Rattle.std.proofs.Common.{◌≡◌, ℕ, zero, suc, ◌+◌, ◌^◌, ◌<◌, ◌≤◌, true, List, [], length, refl, sym, ap, ◌∙◌, subst, arith, add-one}
use Rattle.std.proofs.lemmas.List.FromFn.{get_or-map-range_with_len, length-map-range_with_len}
use Rattle.algebra61.specs.Field.{Fp}
use Rattle.sizes.specs.Committees.{is_bound, is_size}
use Rattle.sharing61.specs.Count.{how_many}
use Rattle.talk.specs.Sync.{has}
use Rattle.histories61.specs.Phases.{FirstFits, NextFits}
use Rattle.histories61.specs.Course.{Course, PhaseFits, FitsTo, share_after_phase}
use Rattle.histories61.proofs.Errors.{one_share}
use Rattle.playback.specs.declared.phase.Phase.{Phase}
use Rattle.playback.specs.Recorded.{kind_of, play_of}
use Rattle.viewshift.specs.Listed.{course_of, phase_at, mask_at}
use Rattle.viewshift.specs.Fits.{FitsAt, IsMaskAfter, HasNext, MaskFits}
use Rattle.scenes.specs.declared.scene.Scene.{Scene}
use Rattle.scenes.specs.Exposed.{exposed_at}
use Rattle.scenes.specs.Law.{AreSides, AreExposed}
use Rattle.scenes.specs.Scenes.{is_down_on, new_side, old_side, scene_at, side_drawn}
use Rattle.scenes.proofs.Filling.{are_exposed}
use Rattle.scenes.proofs.Following.{follows}
use Rattle.scenes.proofs.Sides.{scenes_are}
use Rattle.rehearsal_laws.specs.Laws.{PhasesMakeHistory}
use Rattle.rehearsal_laws.specs.Rehearsal.{ArePhases, exposed_in}
use Rattle.rehearsal_laws.proofs.Fitting.{IsOf, holders_are, holders_bound, holder_down, down_first, first_fits, next_fits}
use Rattle.rehearsal_laws.proofs.Phases.{constants_same, first_scene, later_scene, phase_is, constants_are}

module _ (members bound number : ℕ) (phases : List Phase) (size : is_size members ≡ true) (bounded : is_bound members bound ≡ true) (are : ArePhases members bound number phases) where
  abbrev course : Course
  course = course_of phases []

  -- ---- each phase may stand where it stands
  pub first : 0 < length phases → FirstFits (kind_of (phase_at phases 0).kind) (play_of (phase_at phases 0))
  first lt =
      subst (λ (scene : Scene). AreSides scene → IsOf scene (phase_at phases 0) → FirstFits (kind_of (phase_at phases 0).kind) (play_of (phase_at phases 0))) (sym (first_scene members bound number))
      (first_fits (side_drawn number 0 members bound 0) (phase_at phases 0)) (scenes_are members bound number 0 size bounded) (phase_is members bound number phases size bounded are 0 lt)

  -- with shares that are those that the phases before leave
  pub next : (last : ℕ) → suc last < length phases → (share : ℕ → ℕ → Fp) → ((lane dealer : ℕ) → share_after_phase course are.errors last lane dealer ≡ share lane dealer) →
      NextFits (kind_of (phase_at phases (suc last)).kind) (play_of (phase_at phases last)) (play_of (phase_at phases (suc last))) share
  next last lt share same =
      next_fits (scene_at members bound number last) (scene_at members bound number (suc last)) (phase_at phases last) (phase_at phases (suc last)) share (later_scene members bound number last) (follows members bound number last)
      (phase_is members bound number phases size bounded are last (omega (arith, lt))) (phase_is members bound number phases size bounded are (suc last) lt) (scenes_are members bound number (suc last) size bounded)
      (constants_same (scene_at members bound number (suc last)) (phase_at phases (suc last)) (share_after_phase course are.errors last) share (λ lane dealer less. same lane dealer)
      (constants_are members bound number phases size bounded are last lt))

  pub fits_here : (place : ℕ) → place < length phases → PhaseFits course are.errors place
  fits_here zero lt = first lt
  fits_here (suc last) lt = next last lt (share_after_phase course are.errors last) (λ lane dealer. refl)

  -- with the error vectors at hand all of them fit
  pub fit_together : (n : ℕ) → n ≤ length phases → FitsTo (course_of phases []) are.errors n
  fit_together n le = record {
    phases_fit = λ place lt. fits_here place (omega (arith, lt, le));
    have_errors = λ place lt moved. are.have_errors place (omega (arith, lt, le)) moved;
  }

  -- so with any others
  fits_with : (place : ℕ) → place < length phases → (errors : ℕ → List (List Fp)) → FitsTo course errors place → PhaseFits course errors place
  fits_with zero lt errors fits = first lt
  fits_with (suc last) lt errors fits =
      next last lt (share_after_phase course errors last)
      (λ lane dealer. one_share course are.errors errors (suc last) (fit_together (suc last) (omega (arith, lt))) fits last lane dealer (omega arith))

  pub each_fits : (place : ℕ) → place < length phases → FitsAt phases place
  each_fits place lt = record { kept = (phase_is members bound number phases size bounded are place lt).kept; fits = fits_with place lt }

  -- ---- the masks
  module _ (periods : ℕ) (all : length phases ≡ periods + 1) where
    abbrev exposed : List ℕ
    exposed = exposed_in members bound number periods

    mask_is : (place : ℕ) → place < length phases → mask_at exposed place ≡ exposed_at members bound number periods place
    mask_is place lt = get_or-map-range_with_len (exposed_at members bound number periods) 0 (periods + 1) place place 0 (omega (arith, lt, all)) (omega arith)

    module _ (place : ℕ) (lt : place < length phases) where
      abbrev scene : Scene
      scene = scene_at members bound number place

      abbrev phase : Phase
      phase = phase_at phases place

      abbrev mask : ℕ
      mask = exposed_at members bound number periods place

      is : IsOf (scene_at members bound number place) (phase_at phases place)
      is = phase_is members bound number phases size bounded are place lt

      exposed_is : AreExposed members bound number periods place
      exposed_is = are_exposed members bound number periods place size bounded

      among : (member : ℕ) → member ≤ phase.setting.receivers → member ≤ (new_side scene).members
      among member to = omega (arith, to, holders_are scene phase is)

      names_few : IsMaskAfter phase mask
      names_few = record {
        own = subst (λ (n : ℕ). mask < 2 ^ n) (sym (holders_are scene phase is)) exposed_is.mask;
        exposure = record {
          few = omega (arith, ap (λ (n : ℕ). how_many n (has mask)) (holders_are scene phase is), exposed_is.count, holders_bound scene phase is);
          seen = λ member from to down. exposed_is.seen member from (among member to) (holder_down scene phase is member from to down);
        };
      }

      has_next : HasNext phases place mask
      has_next less member from to down =
          let after : Scene = scene_at members bound number (suc place) in
          let there = down_first scene after phase (phase_at phases (suc place)) (later_scene members bound number place) (follows members bound number place) is (phase_is members bound number phases size bounded are (suc place) less)
          (scenes_are members bound number (suc place) size bounded) member from to in
          exposed_is.seen_after (omega (arith, less, all)) member from (among member to)
          (ap (λ (k : ℕ). is_down_on (old_side (scene_at members bound number k)) member) (add-one place) ∙ sym there ∙ down)

      pub mask_fits : MaskFits phases (exposed_in members bound number periods) place
      mask_fits = record {
        names_few = subst (IsMaskAfter phase) (sym (mask_is place lt)) names_few;
        has_next = subst (HasNext phases place) (sym (mask_is place lt)) has_next;
      }

pub phases_make_history : PhasesMakeHistory
phases_make_history members bound periods number phases size bounded all are = record {
  phases_fit = (omega (arith, all), each_fits members bound number phases size bounded are);
  masks = record {
    masks_fit = mask_fits members bound number phases size bounded are periods all;
    no_more = omega (arith, all, length-map-range_with_len (exposed_at members bound number periods) 0 (periods + 1));
  };
}
