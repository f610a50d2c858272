-- The phases of a rehearsal are records of the drawn phases.
use Rattle.std.proofs.Common.{◌≡◌, ℕ, zero, suc, ◌<◌, ◌≤◌, Bool, true, false, cond, eqb, ◌%◌, List, [], length, get_or, Option, refl, sym, ap, ap₂, ◌∙◌, subst, arith}
use Rattle.std.proofs.lemmas.List.FromFn.{get_or-map-range_with_len}
use Rattle.algebra61.specs.Field.{Fp, zeroₚ}
use Rattle.algebra61.specs.Grid.{grid_at}
use Rattle.sizes.specs.Committees.{is_bound, is_size}
use Rattle.sizes.specs.Instances.{dealer_of, instance_at}
use Rattle.talk.specs.Shape.{Shape, instances, seats, Lawful}
use Rattle.talk.specs.Sync.{has}
use Rattle.plays.specs.Play.{Play}
use Rattle.plays.specs.Law.{IsPlay}
use Rattle.periods.proofs.Polynomials.{dealer_there, number_below}
use Rattle.histories61.specs.Course.{share_after_phase}
use Rattle.playback.specs.declared.phase.PhaseKind.{PhaseKind}
use Rattle.playback.specs.declared.phase.Phase.{Phase}
use Rattle.playback.specs.Recorded.{is_dealt, grid_place, play_of}
use Rattle.hearsay.specs.Record.{HasGrids, IsRecordOf}
use Rattle.hearsay.proofs.Grids.{grid_is}
use Rattle.hearsay.proofs.Record.{record_is_kept, record_is_play}
use Rattle.viewshift.specs.Listed.{course_of, phase_at}
use Rattle.commands.specs.Phase.{shares_given}
use Rattle.scenes.specs.declared.side.Side.{Side}
use Rattle.scenes.specs.declared.scene.Scene.{Scene}
use Rattle.scenes.specs.declared.scene.Scene.TheVariants.{Create, Refresh, Move}
use Rattle.scenes.specs.Law.{AreSides}
use Rattle.scenes.specs.Lawful.{AreOrders}
use Rattle.scenes.specs.Orders.{shape_of}
use Rattle.scenes.specs.Scenes.{coming_side, new_side, old_side, scene_at, side_drawn, staying_side}
use Rattle.scenes.proofs.LawfulOrders.{orders_are}
use Rattle.scenes.proofs.Sides.{scenes_are}
use Rattle.rehearsal_laws.specs.Played.{IsLater, IsPlayed, kind_in, play_under}
use Rattle.rehearsal_laws.specs.Rehearsal.{ArePhases, lanes_after}
use Rattle.rehearsal_laws.proofs.Created.{create_is_play, create_down, create_has_grids}
use Rattle.rehearsal_laws.specs.Down.{down_on}
use Rattle.rehearsal_laws.proofs.Fitting.{IsOf, HasConstants}
use Rattle.rehearsal_laws.proofs.Moved.{move_constants, move_is_play, move_down, move_has_grids}
use Rattle.rehearsal_laws.proofs.Refreshed.{refresh_is_play, refresh_down, refresh_has_grids}

-- ---- the record of a play
pub is_of : (scene : Scene) (play : Play) (phase : Phase) → IsPlay play → HasGrids play → play.shape ≡ shape_of scene →
    ((seat : ℕ) → 1 ≤ seat → seat ≤ seats (shape_of scene) → play.down seat ≡ down_on scene seat) → IsRecordOf (kind_in scene) play phase → IsOf scene phase
is_of scene play phase is grids shape down recorded = record {
  kind_is = recorded.kind_is;
  setting_is = recorded.setting_is ∙ shape;
  kept = record_is_kept (kind_in scene) play phase is grids recorded;
  is_play = record_is_play (kind_in scene) play phase is recorded;
  down_is = λ seat from to. recorded.marks seat from (omega (arith, to, ap seats shape)) ∙ down seat from to;
}

-- its grids are those of the play
pub grid_there : (kind : PhaseKind) (play : Play) (phase : Phase) → Lawful play.shape → IsRecordOf kind play phase → (i : ℕ) → i < instances play.shape → play.down (dealer_of i) ≡ false →
    (play_of phase).grid i ≡ play.grid i
grid_there kind play phase lawful recorded i lt up =
    ap₂ (λ (s : Shape) (grids : List (List (List Fp))). cond (is_dealt s phase.down i) (get_or grids (grid_place phase.down i) []) []) recorded.setting_is recorded.grids_are
    ∙ grid_is play phase.down lawful recorded.marks i lt up

-- ---- a phase
pub created_is : (number place : ℕ) (side : Side) (shares : List (Option (List Fp))) (phase : Phase) → AreSides (Create side) → AreOrders (Create side) → IsPlayed number place (Create side) shares phase → IsOf (Create side) phase
created_is number place side shares phase sides told played =
    is_of (Create side) _ phase (create_is_play number place side shares sides told played.masks played.uncut) (create_has_grids number place side shares sides told played.masks played.uncut) refl
    (create_down number place side shares sides told played.masks played.uncut) played.record_is

abbrev IsBegun : ℕ → ℕ → Scene → (ℕ → List Fp) → Phase → Type 0
IsBegun number place scene lanes phase = IsPlayed number place scene (shares_given (has (old_side scene).shareless) lanes (old_side scene).members) phase

abbrev own_lane : (ℕ → List Fp) → ℕ → ℕ → Fp
own_lane lanes lane member = get_or (lanes member) lane zeroₚ

pub played_is : (number place : ℕ) (scene : Scene) (lanes : ℕ → List Fp) (phase : Phase) → AreSides scene → AreOrders scene → IsBegun number place scene lanes phase → IsOf scene phase
played_is number place (Create side) lanes phase sides told played = created_is number place side _ phase sides told played
played_is number place (Refresh side) lanes phase sides told played =
    is_of (Refresh side) _ phase (refresh_is_play number place side lanes sides told played.masks played.uncut) (refresh_has_grids number place side lanes sides told played.masks played.uncut) refl
    (refresh_down number place side lanes sides told played.masks played.uncut) played.record_is
played_is number place (Move old new) lanes phase sides told played =
    is_of (Move old new) _ phase (move_is_play number place old new lanes sides told played.masks played.uncut) (move_has_grids number place old new lanes sides told played.masks played.uncut) refl
    (move_down number place old new lanes sides told played.masks played.uncut) played.record_is

pub played_constants : (number place : ℕ) (scene : Scene) (lanes : ℕ → List Fp) (phase : Phase) → AreSides scene → AreOrders scene → IsBegun number place scene lanes phase → HasConstants scene phase (own_lane lanes)
played_constants number place (Create side) lanes phase sides told played = tt
played_constants number place (Refresh side) lanes phase sides told played = tt
played_constants number place (Move old new) lanes phase sides told played = λ dealer lane from to lt up.
    let play : Play = play_under number place (Move old new) (shares_given (has old.shareless) lanes old.members) played.masks in
    let mine : play.down dealer ≡ false = sym (played.record_is.marks dealer from (omega (arith, to))) ∙ up in
    ap (λ (grid : List (List Fp)). grid_at grid zeroₚ zeroₚ)
    (grid_there (kind_in (Move old new)) play phase (move_is_play number place old new lanes sides told played.masks played.uncut).setting played.record_is (instance_at dealer lane)
    (number_below play dealer lane from to lt) (ap play.down (dealer_there dealer lane from lt) ∙ mine))
    ∙ move_constants number place old new lanes sides told played.masks played.uncut dealer lane from to lt mine

-- the same shares, as far as they are read
pub constants_same : (scene : Scene) (phase : Phase) (one other : ℕ → ℕ → Fp) → ((lane dealer : ℕ) → lane < 5 → one lane dealer ≡ other lane dealer) → HasConstants scene phase one → HasConstants scene phase other
constants_same (Create side) phase one other same has_these = tt
constants_same (Refresh side) phase one other same has_these = tt
constants_same (Move old new) phase one other same has_these = λ dealer lane from to lt up. has_these dealer lane from to lt up ∙ same lane dealer lt

-- ---- the drawn phases
pub first_scene : (members bound number : ℕ) → scene_at members bound number 0 ≡ Create (side_drawn number 0 members bound 0)
unfolding scene_at
first_scene members bound number = refl

later_by : (number place : ℕ) (last : Side) (b : Bool) → IsLater (cond b (Move (staying_side number place last) (coming_side number place last)) (Refresh (staying_side number place last)))
later_by number place last true = tt
later_by number place last false = tt

pub later_scene : (members bound number place : ℕ) → IsLater (scene_at members bound number (suc place))
unfolding scene_at
later_scene members bound number place = later_by number (suc place) (new_side (scene_at members bound number place)) (eqb (suc place % 3) 0)

-- ---- the phases of a rehearsal
module _ (members bound number : ℕ) (phases : List Phase) (size : is_size members ≡ true) (bounded : is_bound members bound ≡ true) (are : ArePhases members bound number phases) where
  pub phase_is : (place : ℕ) → place < length phases → IsOf (scene_at members bound number place) (phase_at phases place)
  phase_is zero lt =
      subst (λ (scene : Scene). AreSides scene → AreOrders scene → IsPlayed number 0 scene [] (phase_at phases 0) → IsOf scene (phase_at phases 0)) (sym (first_scene members bound number))
      (created_is number 0 (side_drawn number 0 members bound 0) [] (phase_at phases 0)) (scenes_are members bound number 0 size bounded) (orders_are members bound number 0 size bounded) (are.played 0 lt)
  phase_is (suc last) lt =
      played_is number (suc last) (scene_at members bound number (suc last)) (lanes_after (course_of phases []) are.errors last) (phase_at phases (suc last)) (scenes_are members bound number (suc last) size bounded) (orders_are members bound number (suc last) size bounded)
      (are.played (suc last) lt)

  pub constants_are : (last : ℕ) → suc last < length phases → HasConstants (scene_at members bound number (suc last)) (phase_at phases (suc last)) (share_after_phase (course_of phases []) are.errors last)
  constants_are last lt =
      constants_same (scene_at members bound number (suc last)) (phase_at phases (suc last)) (own_lane (lanes_after (course_of phases []) are.errors last)) (share_after_phase (course_of phases []) are.errors last)
      (λ lane dealer less. get_or-map-range_with_len (λ l. share_after_phase (course_of phases []) are.errors last l dealer) 0 5 lane lane zeroₚ less (omega arith))
      (played_constants number (suc last) (scene_at members bound number (suc last)) (lanes_after (course_of phases []) are.errors last) (phase_at phases (suc last)) (scenes_are members bound number (suc last) size bounded)
      (orders_are members bound number (suc last) size bounded) (are.played (suc last) lt))
