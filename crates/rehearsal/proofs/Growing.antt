-- The phases of a rehearsal, and one more that is played behind them.
use Rattle.std.proofs.Common.{inl, inr, ◌≡◌, ℕ, zero, suc, ◌+◌, ◌<◌, true, List, [], length, map, get_or, Option, refl, sym, ap, ◌∙◌, subst, arith}
use Rattle.std.proofs.lemmas.Bool.{cases_lt}
use Rattle.std.proofs.lemmas.List.FromFn.{get_or-map-range_with_len}
use Rattle.algebra61.specs.Field.{Fp, zeroₚ}
use Rattle.sizes.specs.Committees.{is_bound, is_size}
use Rattle.talk.specs.Basics.{places}
use Rattle.talk.specs.Sync.{has}
use Rattle.histories61.specs.Course.{FitsTo, share_after_phase}
use Rattle.histories61.proofs.Errors.{one_share}
use Rattle.playback.specs.declared.phase.Phase.{Phase}
use Rattle.playback.specs.Recorded.{play_of}
use Rattle.viewshift.specs.Listed.{course_of, phase_at}
use Rattle.viewshift.specs.Fits.{FitsAt}
use Rattle.viewshift.specs.Walk.{IsAt}
use Rattle.viewshift.proofs.Standing.{each_more, fits_less, together}
use Rattle.commands.specs.Phase.{shares_given}
use Rattle.scenes.specs.declared.scene.Scene.{Scene}
use Rattle.scenes.specs.declared.scene.Scene.TheVariants.{Create}
use Rattle.scenes.specs.declared.side.Side.{Side}
use Rattle.scenes.specs.Law.{AreSides, Follows}
use Rattle.scenes.specs.Lawful.{AreOrders}
use Rattle.scenes.specs.Scenes.{new_side, old_side, scene_at, side_drawn}
use Rattle.scenes.proofs.Following.{follows}
use Rattle.scenes.proofs.LawfulOrders.{orders_are}
use Rattle.scenes.proofs.Sides.{scenes_are}
use Rattle.rehearsal_laws.specs.Played.{IsPlayed}
use Rattle.rehearsal_laws.specs.Rehearsal.{ArePhases, IsPlayedAt, lanes_after, shares_before}
use Rattle.rehearsal_laws.proofs.Fitting.{HasConstants, IsOf, first_fits, holder_down, holders_are, next_fits}
use Rattle.rehearsal_laws.proofs.History.{fit_together}
use Rattle.rehearsal_laws.proofs.One.{AgreeTo, same_shares}
use Rattle.rehearsal_laws.proofs.Phases.{constants_same, created_is, first_scene, later_scene, phase_is, played_constants, played_is}
use Rattle.rehearsal.specs.Lived.{begun_with}
use Rattle.rehearsal.proofs.Agreeing.{agree_less, fits_to, is_at}
use Rattle.rehearsal.proofs.Beginning.{begun_is}

-- a create begins with no shares, whatever is handed in
created_alike : (number place : ℕ) (side : Side) (shares others : List (Option (List Fp))) (phase : Phase) → IsPlayed number place (Create side) shares phase → IsPlayed number place (Create side) others phase
created_alike number place side shares others phase played = record { masks = played.masks; uncut = played.uncut; record_is = played.record_is }

module _ (members bound number : ℕ) (size : is_size members ≡ true) (bounded : is_bound members bound ≡ true) where
  -- the shares that the phases before leave, without those that the next phase has without
  abbrev begun_at : ℕ → List (Option (List Fp)) → List (Option (List Fp))
  begun_at place shares = begun_with (old_side (scene_at members bound number place)).shareless shares

  -- they are the ones that a phase of a rehearsal begins with
  pub later_begun : (phases : List Phase) (last : ℕ) (shares : List (Option (List Fp))) → IsOf (scene_at members bound number last) (phase_at phases last) → IsAt phases (suc last) shares →
      (errors : ℕ → List (List Fp)) → FitsTo (course_of phases []) errors (suc last) →
      begun_at (suc last) shares ≡ shares_before (course_of phases []) errors (old_side (scene_at members bound number (suc last))) (suc last)
  later_begun phases last shares is at errors fits =
      let after : Side = old_side (scene_at members bound number (suc last)) in
      let before : Side = new_side (scene_at members bound number last) in
      let follow : Follows (scene_at members bound number last) (scene_at members bound number (suc last)) = follows members bound number last in
      let all : after.members ≡ (phase_at phases last).setting.receivers = follow.members ∙ sym (holders_are (scene_at members bound number last) (phase_at phases last) is) in
      ap (begun_with after.shareless) (at.left errors fits)
      ∙ begun_is (play_of (phase_at phases last)) (share_after_phase (course_of phases []) errors last) after.shareless after.members all
      (λ member from to down.
      follow.shareless member from (omega (arith, to, follow.members))
      ∙ holder_down (scene_at members bound number last) (phase_at phases last) is member from (omega (arith, to, all)) down)

  -- so a phase that begins with them is one of a rehearsal, whatever error vectors the moves before it have
  next_played : (phases : List Phase) (n : ℕ) (shares : List (Option (List Fp))) → ((place : ℕ) → place < n → IsOf (scene_at members bound number place) (phase_at phases place)) → IsAt phases n shares →
      IsPlayed number n (scene_at members bound number n) (begun_at n shares) (phase_at phases n) →
      (errors : ℕ → List (List Fp)) → FitsTo (course_of phases []) errors n → IsPlayedAt members bound number phases errors n
  next_played phases zero shares before at played errors fits =
      subst (λ (scene : Scene). IsPlayed number 0 scene (begun_at 0 shares) (phase_at phases 0) → IsPlayed number 0 scene [] (phase_at phases 0)) (sym (first_scene members bound number))
      (created_alike number 0 (side_drawn number 0 members bound 0) (begun_at 0 shares) [] (phase_at phases 0)) played
  next_played phases (suc last) shares before at played errors fits =
      subst (λ (begun : List (Option (List Fp))). IsPlayed number (suc last) (scene_at members bound number (suc last)) begun (phase_at phases (suc last)))
      (later_begun phases last shares (before last (omega arith)) at errors fits) played

  -- and may stand where it stands
  first_stands : (phases : List Phase) → IsPlayed number 0 (scene_at members bound number 0) [] (phase_at phases 0) → FitsAt phases 0
  first_stands phases =
      subst (λ (scene : Scene). AreSides scene → AreOrders scene → IsPlayed number 0 scene [] (phase_at phases 0) → FitsAt phases 0) (sym (first_scene members bound number))
      (λ sides told played.
      let is : IsOf (Create (side_drawn number 0 members bound 0)) (phase_at phases 0) = created_is number 0 (side_drawn number 0 members bound 0) [] (phase_at phases 0) sides told played in
      record { kept = is.kept; fits = λ errors fits. first_fits (side_drawn number 0 members bound 0) (phase_at phases 0) sides is })
      (scenes_are members bound number 0 size bounded) (orders_are members bound number 0 size bounded)

  later_is : (phases : List Phase) (last : ℕ) (errors : ℕ → List (List Fp)) → IsPlayedAt members bound number phases errors (suc last) → IsOf (scene_at members bound number (suc last)) (phase_at phases (suc last))
  later_is phases last errors =
      played_is number (suc last) (scene_at members bound number (suc last)) (lanes_after (course_of phases []) errors last) (phase_at phases (suc last))
      (scenes_are members bound number (suc last) size bounded) (orders_are members bound number (suc last) size bounded)

  later_constants : (phases : List Phase) (last : ℕ) (errors : ℕ → List (List Fp)) → IsPlayedAt members bound number phases errors (suc last) →
      HasConstants (scene_at members bound number (suc last)) (phase_at phases (suc last)) (share_after_phase (course_of phases []) errors last)
  later_constants phases last errors played =
      constants_same (scene_at members bound number (suc last)) (phase_at phases (suc last)) (λ lane dealer. get_or (lanes_after (course_of phases []) errors last dealer) lane zeroₚ) (share_after_phase (course_of phases []) errors last)
      (λ lane dealer less. get_or-map-range_with_len (λ l. share_after_phase (course_of phases []) errors last l dealer) 0 5 lane lane zeroₚ less (omega arith))
      (played_constants number (suc last) (scene_at members bound number (suc last)) (lanes_after (course_of phases []) errors last) (phase_at phases (suc last)) (scenes_are members bound number (suc last) size bounded)
      (orders_are members bound number (suc last) size bounded) played)

  later_stands : (phases : List Phase) (last : ℕ) → IsOf (scene_at members bound number last) (phase_at phases last) → ((k : ℕ) → k < suc last → FitsAt phases k) →
      ((errors : ℕ → List (List Fp)) → FitsTo (course_of phases []) errors (suc last) → IsPlayedAt members bound number phases errors (suc last)) → FitsAt phases (suc last)
  later_stands phases last before each played =
      let got = together phases (suc last) each in
      let is : IsOf (scene_at members bound number (suc last)) (phase_at phases (suc last)) = later_is phases last got.0 (played got.0 got.1) in
      record {
        kept = is.kept;
        fits = λ errors fits.
            next_fits (scene_at members bound number last) (scene_at members bound number (suc last)) (phase_at phases last) (phase_at phases (suc last)) (share_after_phase (course_of phases []) errors last)
            (later_scene members bound number last) (follows members bound number last) before is (scenes_are members bound number (suc last) size bounded)
            (later_constants phases last errors (played errors fits));
      }

  next_stands : (phases : List Phase) (n : ℕ) → ((place : ℕ) → place < n → IsOf (scene_at members bound number place) (phase_at phases place)) → ((k : ℕ) → k < n → FitsAt phases k) →
      ((errors : ℕ → List (List Fp)) → FitsTo (course_of phases []) errors n → IsPlayedAt members bound number phases errors n) → FitsAt phases n
  next_stands phases zero before each played = let got = together phases 0 each in first_stands phases (played got.0 got.1)
  next_stands phases (suc last) before each played = later_stands phases last (before last (omega arith)) each played

  -- ---- one more phase
  module _ (phases longer : List Phase) (shares : List (Option (List Fp))) (are : ArePhases members bound number phases) (at : IsAt phases (length phases) shares)
      (agree : AgreeTo phases longer (length phases)) (one : length longer ≡ length phases + 1)
      (played : IsPlayed number (length phases) (scene_at members bound number (length phases)) (begun_at (length phases) shares) (phase_at longer (length phases))) where
    pub still_at : IsAt longer (length phases) shares
    still_at = is_at phases longer (length phases) shares agree at

    is_before : (place : ℕ) → place < length phases → IsOf (scene_at members bound number place) (phase_at longer place)
    is_before place lt = subst (IsOf (scene_at members bound number place)) (agree place lt) (phase_is members bound number phases size bounded are place lt)

    last_played : (errors : ℕ → List (List Fp)) → FitsTo (course_of longer []) errors (length phases) → IsPlayedAt members bound number longer errors (length phases)
    last_played = next_played longer (length phases) shares is_before still_at played

    pub each_longer : (k : ℕ) → k < length phases + 1 → FitsAt longer k
    each_longer = each_more longer (length phases) still_at.each (next_stands longer (length phases) is_before still_at.each last_played)

    -- the shares before a place are the same under error vectors with which all fit
    before_same : (errors : ℕ → List (List Fp)) → FitsTo (course_of longer []) errors (length phases) → (side : Side) (place : ℕ) → place < length phases →
        shares_before (course_of phases []) are.errors side place ≡ shares_before (course_of longer []) errors side place
    before_same errors fits side zero lt = refl
    before_same errors fits side (suc last) lt =
        let to : AgreeTo phases longer (suc last) = agree_less phases longer (length phases) (suc last) (omega (arith, lt)) agree in
        let mine : FitsTo (course_of longer []) are.errors (suc last) = fits_to phases longer are.errors (suc last) to (fit_together members bound number phases size bounded are (suc last) (omega (arith, lt))) in
        ap (λ (share : ℕ → ℕ → Fp). shares_given (has side.shareless) (λ member. map (λ lane. share lane member) (places 5)) side.members)
        (λ i lane member.
        (same_shares phases longer are.errors last to lane member
        ∙ one_share (course_of longer []) are.errors errors (suc last) mine (fits_less (course_of longer []) errors (length phases) (suc last) (omega (arith, lt)) fits) last lane member (omega arith))
        i)

    first_played : (errors : ℕ → List (List Fp)) → FitsTo (course_of longer []) errors (length phases) → (place : ℕ) → place < length phases → IsPlayedAt members bound number longer errors place
    first_played errors fits place lt =
        subst (λ (begun : List (Option (List Fp))). IsPlayed number place (scene_at members bound number place) begun (phase_at longer place)) (before_same errors fits (old_side (scene_at members bound number place)) place lt)
        (subst (IsPlayed number place (scene_at members bound number place) (shares_before (course_of phases []) are.errors (old_side (scene_at members bound number place)) place)) (agree place lt) (are.played place lt))

    pub grown : ArePhases members bound number longer
    grown =
        let got = together longer (length phases + 1) each_longer in
        let fits : FitsTo (course_of longer []) got.0 (length phases) = fits_less (course_of longer []) got.0 (length phases + 1) (length phases) (omega arith) got.1 in
        record {
          errors = got.0;
          have_errors = λ place lt. got.1.have_errors place (omega (arith, lt, one));
          played = λ place lt.
              elim (cases_lt place (length phases)) [
                | inl less ↦ first_played got.0 fits place less
                | inr past ↦
                    let e : length phases ≡ place = omega (arith, past, lt, one) in
                    subst (IsPlayedAt members bound number longer got.0) e (last_played got.0 fits)
              ];
        }
