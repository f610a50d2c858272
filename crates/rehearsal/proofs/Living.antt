-- A life that goes on for one more phase.
use Rattle.std.proofs.Common.{◌≡◌, ℕ, zero, suc, ◌+◌, ◌≤◌, true, List, [], ◌∷◌, ◌++◌, length, Option, sym, ap, ◌∙◌, subst, arith}
use Rattle.std.proofs.lemmas.List.{get_or_append_left, length-append, map-append}
use Rattle.std.proofs.Math.Seq.{get_or-append_seam}
use Rattle.algebra61.specs.Field.{Fp}
use Rattle.sizes.specs.Committees.{is_bound, is_size}
use Rattle.members.specs.Shares.{accepted_count}
use Rattle.playback.specs.declared.phase.Phase.{Phase}
use Rattle.playback.specs.Recorded.{play_of}
use Rattle.viewshift.specs.Listed.{course_of, no_phase, phase_at}
use Rattle.viewshift.specs.Fits.{FitsAt}
use Rattle.viewshift.specs.Walk.{IsAt}
use Rattle.viewshift.proofs.Standing.{all_there, together}
use Rattle.scenes.specs.declared.scene.Scene.{Scene}
use Rattle.scenes.specs.declared.side.Side.{Side}
use Rattle.scenes.specs.Scenes.{new_side, old_side, scene_at}
use Rattle.scenes.proofs.Sides.{few_members, scenes_are}
use Rattle.recorder.specs.Begun.{IsBegun}
use Rattle.recorder.proofs.Begins.{begun_later}
use Rattle.rehearsal_laws.specs.Played.{IsPlayed}
use Rattle.rehearsal_laws.specs.Rehearsal.{ArePhases, accepted_in, lanes_after}
use Rattle.rehearsal_laws.proofs.Fitting.{holders_are}
use Rattle.rehearsal_laws.proofs.One.{AgreeTo}
use Rattle.rehearsal_laws.proofs.Phases.{first_scene, later_scene, phase_is}
use Rattle.rehearsal.specs.Lived.{IsLived, begun_with}
use Rattle.rehearsal.specs.declared.life.Life.{Life}
use Rattle.rehearsal.proofs.Growing.{each_longer, grown, later_begun, still_at}

-- ---- the shares with which the next phase begins
module _ (members bound number : ℕ) (size : is_size members ≡ true) (bounded : is_bound members bound ≡ true) where
  begins_at : (phases : List Phase) (n : ℕ) (shares : List (Option (List Fp))) → n ≤ length phases → n ≤ 64 → ArePhases members bound number phases → IsAt phases n shares →
      IsBegun n (scene_at members bound number n) (begun_with (old_side (scene_at members bound number n)).shareless shares)
  begins_at phases zero shares le few are at =
      subst (λ (scene : Scene). IsBegun 0 scene (begun_with (old_side scene).shareless shares)) (sym (first_scene members bound number)) tt
  begins_at phases (suc last) shares le few are at =
      let got = together phases (suc last) at.each in
      begun_later (suc last) (scene_at members bound number (suc last)) _ (omega arith) few (later_scene members bound number last)
      (lanes_after (course_of phases []) got.0 last, later_begun members bound number size bounded phases last shares (phase_is members bound number phases size bounded are last (omega (arith, le))) at got.0 got.1)

  module _ (life : Life) (lived : IsLived members bound number life) (scene : Scene) (side : Side) (place : ℕ) (begun : List (Option (List Fp))) (here : place ≡ length life.phases)
      (scene_is : scene ≡ scene_at members bound number (length life.phases)) (side_is : side ≡ old_side scene) (begun_is : begun ≡ begun_with side.shareless life.shares.items) where
    begun_here : begun ≡ begun_with (old_side (scene_at members bound number (length life.phases))).shareless life.shares.items
    begun_here = begun_is ∙ ap (λ (s : Side). begun_with s.shareless life.shares.items) (side_is ∙ ap old_side scene_is)

    pub begins : length life.phases ≤ 64 → IsBegun place scene begun
    begins few =
        subst (λ (k : ℕ). IsBegun k scene begun) (sym here)
        (subst (λ (s : Scene). IsBegun (length life.phases) s begun) (sym scene_is)
        (subst (IsBegun (length life.phases) (scene_at members bound number (length life.phases))) (sym begun_here)
        (begins_at life.phases (length life.phases) life.shares.items (omega arith) few lived.phases lived.shares)))

    -- ---- the life with a phase more
    module _ (phase : Phase) (longer : List Phase) (pushed : longer ≡ life.phases ++ phase ∷ []) (played : IsPlayed number place scene begun phase) where
      agree : AgreeTo life.phases longer (length life.phases)
      agree k lt = sym (ap (λ (phases : List Phase). phase_at phases k) pushed ∙ get_or_append_left life.phases (phase ∷ []) no_phase k lt)

      last_is : phase_at longer (length life.phases) ≡ phase
      last_is = ap (λ (phases : List Phase). phase_at phases (length life.phases)) pushed ∙ get_or-append_seam life.phases phase [] no_phase

      one : length longer ≡ length life.phases + 1
      one = ap length pushed ∙ length-append life.phases (phase ∷ [])

      played_here : IsPlayed number (length life.phases) (scene_at members bound number (length life.phases))
          (begun_with (old_side (scene_at members bound number (length life.phases))).shareless life.shares.items) (phase_at longer (length life.phases))
      played_here =
          subst (IsPlayed number (length life.phases) (scene_at members bound number (length life.phases)) (begun_with (old_side (scene_at members bound number (length life.phases))).shareless life.shares.items)) (sym last_is)
          (subst (λ (b : List (Option (List Fp))). IsPlayed number (length life.phases) (scene_at members bound number (length life.phases)) b phase) begun_here
          (subst (λ (s : Scene). IsPlayed number (length life.phases) s begun phase) scene_is (subst (λ (k : ℕ). IsPlayed number k scene begun phase) here played)))

      pub each_fits_to : (k : ℕ) → k ≤ place → FitsAt longer k
      each_fits_to k le =
          each_longer members bound number size bounded life.phases longer life.shares.items lived.phases lived.shares agree one played_here k (omega (arith, le, here))

      pub are_before : IsAt longer place life.shares.items
      are_before =
          subst (λ (k : ℕ). IsAt longer k life.shares.items) (sym here)
          (still_at members bound number size bounded life.phases longer life.shares.items lived.phases lived.shares agree one played_here)

      are : ArePhases members bound number longer
      are = grown members bound number size bounded life.phases longer life.shares.items lived.phases lived.shares agree one played_here

      few_left : (shares : List (Option (List Fp))) → IsAt longer (length longer) shares → length shares ≤ 30
      few_left shares at =
          let here_is = phase_is members bound number longer size bounded are (length life.phases) (omega (arith, one)) in
          omega (
            arith,
            all_there longer (length longer) (phase_at longer (length life.phases)) shares (omega (arith, one)) (ap (phase_at longer) (omega (arith, one))) at,
            holders_are (scene_at members bound number (length life.phases)) (phase_at longer (length life.phases)) here_is,
            few_members (new_side (scene_at members bound number (length life.phases))) (scenes_are members bound number (length life.phases) size bounded).1,
          )

      pub lives_on : (after : Life) → after.phases ≡ longer → (count : ℕ) → count ≡ accepted_count (play_of phase) → after.accepted ≡ life.accepted ++ count ∷ [] → IsAt longer (place + 1) after.shares.items →
          IsLived members bound number after
      lives_on after same count counted more at =
          let end : place + 1 ≡ length longer = omega (arith, here, one) in
          let left : IsAt longer (length longer) after.shares.items = subst (λ (k : ℕ). IsAt longer k after.shares.items) end at in
          record {
            phases = subst (ArePhases members bound number) (sym same) are;
            accepted =
                more
                ∙ ap (λ (counts : List ℕ). counts ++ count ∷ []) lived.accepted
                ∙ ap (λ (k : ℕ). accepted_in life.phases ++ k ∷ []) counted
                ∙ sym (map-append (λ (p : Phase). accepted_count (play_of p)) life.phases (phase ∷ []))
                ∙ sym (ap accepted_in (same ∙ pushed));
            shares = subst (λ (phases : List Phase). IsAt phases (length phases) after.shares.items) (sym same) left;
            few = few_left after.shares.items left;
          }
