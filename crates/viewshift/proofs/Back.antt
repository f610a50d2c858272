-- The first phases again, by the difference back.
use Rattle.std.proofs.Common.{◌≡◌, ℕ, zero, suc, ◌+◌, ◌-◌, ◌*◌, ◌<◌, ◌≤◌, Bool, true, false, not, cond, List, [], length, map, get_or, refl, sym, ap, ◌∙◌, arith}
use Rattle.std.specs.List.{flat_map}
use Rattle.std.proofs.lemmas.List.{take_all}
use Rattle.algebra61.specs.Field.{Fp, zeroₚ, ◌+ₚ◌}
use Rattle.sizes.specs.Instances.{dealer_of, instance_at}
use Rattle.sharing61.specs.Count.{how_many}
use Rattle.talk.specs.Shape.{instances}
use Rattle.talk.specs.Sync.{has}
use Rattle.plays.specs.Play.{Play}
use Rattle.plays.specs.Said.{places, points_up_to}
use Rattle.plays.proofs.Steps.{flat_same}
use Rattle.histories61.specs.Course.{Course}
use Rattle.histories61.proofs.Lists.{map_same}
use Rattle.histories61.proofs.Errors.{same_entries}
use Rattle.choices61.specs.Translation.{translated_phase}
use Rattle.choices61.specs.Other.{exposed_before, other_course}
use Rattle.choices61.proofs.Again.{back_again}
use Rattle.playback.specs.declared.phase.Phase.{Phase}
use Rattle.playback.specs.Recorded.{kind_of, play_of, up_to}
use Rattle.playback.proofs.Formed.{dealt_at, grid_there}
use Rattle.phaseshift.specs.Shift.{other_grid, other_grids, other_phase}
use Rattle.viewshift.specs.Listed.{no_phase, phase_at, mask_at, course_of}
use Rattle.viewshift.specs.Fits.{AreHistory}
use Rattle.viewshift.specs.Others.{other_at, other_phases, PhasesComeAgain}
use Rattle.phaseshift.proofs.Translated.{other_phase_is_translated}
use Rattle.viewshift.proofs.Parts.{front_parts}
use Rattle.viewshift.proofs.Standing.{lists_are_history}
use Rattle.viewshift.proofs.Others.{length-others, at_other, before_is, translated_is}

cond_up : {A : Type 0} (b : Bool) (d x y : A) → (b ≡ false → x ≡ y) → cond b d x ≡ cond b d y
cond_up true d x y h = refl
cond_up false d x y h = h refl

before_same : (course : Course) (difference : ℕ → Fp) (k : ℕ) → exposed_before course k ≡ exposed_before (other_course course difference) k
before_same course difference zero = refl
before_same course difference (suc k) = refl

-- ---- one phase
module _ (phases : List Phase) (exposed : List ℕ) (difference back : ℕ → Fp) (are : AreHistory phases exposed) (opposite : (lane : ℕ) → lane < 5 → difference lane +ₚ back lane ≡ zeroₚ) (k : ℕ) (lt : k < length phases) where
  abbrev phase : Phase
  phase = phase_at phases k

  abbrev before : ℕ → Bool
  before = has (mask_at exposed (k - 1))

  abbrev after : ℕ → Bool
  after = has (mask_at exposed k)

  grid_again : (dealer lane : ℕ) → 1 ≤ dealer → dealer ≤ phase.setting.dealers → lane < 5 → has phase.down dealer ≡ false →
      other_grid (other_at phases exposed difference k) before after back dealer lane ≡ get_or phase.grids (5 * up_to phase.down (dealer - 1) + lane) []
  grid_again dealer lane from to l5 up =
      let course : Course = course_of phases exposed in
      let i : ℕ = instance_at dealer lane in
      let li : i < instances phase.setting = omega (arith, from, to, l5) in
      let is = lists_are_history phases exposed are in
      ap (λ (q : Play). (translated_phase (kind_of phase.kind) q before after back).grid i) (other_phase_is_translated phase before after difference ∙ translated_is phases exposed difference k)
      ∙ ap (λ (b : ℕ → Bool). (translated_phase (kind_of phase.kind) ((other_course course difference).play k) b after back).grid i) (before_is phases exposed k ∙ before_same course difference k)
      ∙ back_again course is.0 difference back is.1 opposite k i lt li (λ honest. grid_there phase (are.phases_fit.1 k lt).kept i li honest)
      ∙ dealt_at phase dealer lane from to l5 up

  grids_again : other_grids (other_at phases exposed difference k) before after back ≡ phase.grids
  grids_again =
      let number = (are.phases_fit.1 k lt).kept.number in
      flat_same _ (λ dealer. cond (has phase.down dealer) [] (map (λ lane. get_or phase.grids (5 * how_many (dealer - 1) (λ j. not (has phase.down j)) + lane) []) (places 5))) phase.setting.dealers 1
      (λ dealer from to. cond_up (has phase.down dealer) [] _ _ (λ up. map_same _ _ 5 0 (λ lane l0 l5. grid_again dealer lane from (omega (arith, to)) l5 up)))
      ∙ front_parts (has phase.down) phase.setting.dealers phase.grids [] (omega (arith, number))
      ∙ take_all (5 * how_many phase.setting.dealers (λ j. not (has phase.down j))) phase.grids (omega (arith, number))

  phase_again : other_phase (other_at phases exposed difference k) before after back ≡ phase
  phase_again = ap (λ (gs : List (List (List Fp))). let q : Phase = record phase { grids = gs } in q) grids_again

-- ---- all phases
pub phases_come_again : PhasesComeAgain
phases_come_again phases exposed difference back are opposite =
    let once : List Phase = other_phases phases exposed difference in
    let long : length (other_phases once exposed back) ≡ length phases = length-others once exposed back ∙ length-others phases exposed difference in
    same_entries no_phase (other_phases once exposed back) phases long
    (λ k lt.
    at_other once exposed back k
    ∙ ap (λ (q : Phase). other_phase q (has (mask_at exposed (k - 1))) (has (mask_at exposed k)) back) (at_other phases exposed difference k)
    ∙ phase_again phases exposed difference back are opposite k (omega (arith, lt, long)))
