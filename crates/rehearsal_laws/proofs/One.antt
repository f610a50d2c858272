-- There is one list of so many phases of a rehearsal, and so one rehearsal.
use Rattle.std.proofs.Common.{inl, inr, ◌≡◌, ℕ, zero, suc, ◌<◌, ◌≤◌, true, List, [], ◌∷◌, length, map, get_or, sym, ap, ap₂, ◌∙◌, subst, arith}
use Rattle.std.proofs.lemmas.Bool.{cases_lt}
use Rattle.std.proofs.lemmas.List.{ext_get_or}
use Rattle.algebra61.specs.Field.{Fp}
use Rattle.sizes.specs.Committees.{is_bound, is_size}
use Rattle.talk.specs.Basics.{places}
use Rattle.talk.specs.Sync.{has}
use Rattle.histories61.specs.Phases.{Moved}
use Rattle.histories61.specs.Course.{FitsTo, HasErrors, next_share, share_after_phase}
use Rattle.histories61.proofs.Errors.{one_share}
use Rattle.playback.specs.declared.phase.Phase.{Phase}
use Rattle.playback.specs.Recorded.{kind_of, play_of}
use Rattle.viewshift.specs.Listed.{course_of, no_phase, phase_at}
use Rattle.commands.specs.Phase.{shares_given}
use Rattle.scenes.specs.declared.scene.Scene.{Scene}
use Rattle.scenes.specs.declared.side.Side.{Side}
use Rattle.scenes.specs.Lawful.{AreOrders}
use Rattle.scenes.specs.Scenes.{old_side, scene_at, side_drawn}
use Rattle.scenes.proofs.LawfulOrders.{orders_are}
use Rattle.scenes.proofs.Sides.{scenes_are}
use Rattle.rehearsal_laws.specs.Laws.{OnePhases}
use Rattle.rehearsal_laws.specs.Played.{IsPlayed}
use Rattle.rehearsal_laws.specs.Rehearsal.{ArePhases, lanes_after}
use Rattle.rehearsal_laws.proofs.History.{each_fits, fit_together}
use Rattle.rehearsal_laws.proofs.Phases.{first_scene}
use Rattle.rehearsal_laws.proofs.Same.{one_begun, one_created}

-- the first phases of two lists are the same
abbrev pub AgreeTo : List Phase → List Phase → ℕ → Type 0
AgreeTo phases others n = (place : ℕ) → place < n → phase_at phases place ≡ phase_at others place

-- so they leave the same shares, with the same error vectors
pub same_shares : (phases others : List Phase) (errors : ℕ → List (List Fp)) (last : ℕ) → AgreeTo phases others (suc last) → (lane member : ℕ) →
    share_after_phase (course_of phases []) errors last lane member ≡ share_after_phase (course_of others []) errors last lane member
same_shares phases others errors zero agree lane member = ap (λ (p : Phase). share_after_phase (course_of (p ∷ []) []) errors 0 lane member) (agree 0 (omega arith))
same_shares phases others errors (suc last) agree lane member =
    ap₂ (λ (p : Phase) (old : Fp). next_share (kind_of p.kind) (play_of p) lane (get_or (errors (suc last)) lane []) member old) (agree (suc last) (omega arith))
    (same_shares phases others errors last (λ place lt. agree place (omega (arith, lt))) lane member)

module _ (members bound number : ℕ) (phases others : List Phase) (size : is_size members ≡ true) (bounded : is_bound members bound ≡ true) (long : length phases ≡ length others)
    (are : ArePhases members bound number phases) (also : ArePhases members bound number others) where
  -- the error vectors of the ones are error vectors of the others
  pub fits_others : (n : ℕ) → n ≤ length others → AgreeTo phases others n → FitsTo (course_of others []) are.errors n
  fits_others zero le agree = record { phases_fit = λ place lt. absurd (omega (arith, lt)); have_errors = λ place lt. absurd (omega (arith, lt)) }
  fits_others (suc n) le agree =
      let before : FitsTo (course_of others []) are.errors n = fits_others n (omega (arith, le)) (λ place lt. agree place (omega (arith, lt))) in
      record {
        phases_fit = λ place lt. elim (cases_lt place n) [
          | inl less ↦ before.phases_fit place less
          | inr past ↦
              let e : n ≡ place = omega (arith, past, lt) in
              (each_fits members bound number others size bounded also place (omega (arith, lt, le))).fits are.errors (subst (FitsTo (course_of others []) are.errors) e before)
        ];
        have_errors = λ place lt.
            subst (λ (p : Phase). kind_of p.kind ≡ Moved → HasErrors (play_of p) (are.errors place)) (agree place lt) (are.have_errors place (omega (arith, lt, le, long)));
      }

  pub shares_agree : (last : ℕ) → suc last ≤ length others → AgreeTo phases others (suc last) → (lane member : ℕ) →
      share_after_phase (course_of phases []) are.errors last lane member ≡ share_after_phase (course_of others []) also.errors last lane member
  shares_agree last le agree lane member =
      same_shares phases others are.errors last agree lane member
      ∙ one_share (course_of others []) are.errors also.errors (suc last) (fits_others (suc last) le agree) (fit_together members bound number others size bounded also (suc last) le) last lane member (omega arith)

  pub lanes_agree : (last : ℕ) → suc last ≤ length others → AgreeTo phases others (suc last) → lanes_after (course_of phases []) are.errors last ≡ lanes_after (course_of others []) also.errors last
  lanes_agree last le agree = ap (λ (share : ℕ → ℕ → Fp). let lanes : ℕ → List Fp = λ member. map (λ lane. share lane member) (places 5) in lanes) (λ i lane member. shares_agree last le agree lane member i)

  -- so the next ones are the same
  next_agree : (place : ℕ) → place < length others → AgreeTo phases others place → phase_at phases place ≡ phase_at others place
  next_agree zero lt agree =
      subst (λ (scene : Scene). AreOrders scene → IsPlayed number 0 scene [] (phase_at phases 0) → IsPlayed number 0 scene [] (phase_at others 0) → phase_at phases 0 ≡ phase_at others 0) (sym (first_scene members bound number))
      (one_created number 0 (side_drawn number 0 members bound 0) [] (phase_at phases 0) (phase_at others 0)) (orders_are members bound number 0 size bounded) (are.played 0 (omega (arith, lt, long))) (also.played 0 lt)
  next_agree (suc last) lt agree =
      let scene : Scene = scene_at members bound number (suc last) in
      let side : Side = old_side scene in
      one_begun number (suc last) scene (lanes_after (course_of others []) also.errors last) (phase_at phases (suc last)) (phase_at others (suc last)) (scenes_are members bound number (suc last) size bounded)
      (orders_are members bound number (suc last) size bounded)
      (subst (λ (lanes : ℕ → List Fp). IsPlayed number (suc last) scene (shares_given (has side.shareless) lanes side.members) (phase_at phases (suc last))) (lanes_agree last (omega (arith, lt)) agree) (are.played (suc last) (omega (arith, lt, long))))
      (also.played (suc last) lt)

  all_agree : (n : ℕ) → n ≤ length others → AgreeTo phases others n
  all_agree zero le place lt = absurd (omega (arith, lt))
  all_agree (suc n) le place lt =
      let before : AgreeTo phases others n = all_agree n (omega (arith, le)) in
      elim (cases_lt place n) [
        | inl less ↦ before place less
        | inr past ↦
            let e : n ≡ place = omega (arith, past, lt) in
            subst (λ (k : ℕ). phase_at phases k ≡ phase_at others k) e (next_agree n (omega (arith, le)) before)
      ]

  pub same_phases : phases ≡ others
  same_phases = ext_get_or no_phase phases others long (λ place lt. all_agree (length others) (omega arith) place (omega (arith, lt, long)))

pub one_phases : OnePhases
one_phases members bound number phases others size bounded long are also = same_phases members bound number phases others size bounded long are also
