-- How phases follow each other.
use Rattle.std.proofs.Common.{◌≡◌, ℕ, zero, suc, ◌+◌, ◌%◌, ◌≤◌, Bool, true, false, ◌||◌, cond, eqb, refl, sym, ap, ◌∙◌, subst, add-one}
use Rattle.std.proofs.lemmas.Bool.{or_left}
use Rattle.talk.specs.Sync.{has}
use Rattle.scenes.specs.declared.side.Side.{Side}
use Rattle.scenes.specs.declared.scene.Scene.{Scene}
use Rattle.scenes.specs.declared.scene.Scene.TheVariants.{Move, Refresh}
use Rattle.scenes.specs.Scenes.{coming_side, down_mask, is_down_on, is_drilled, new_side, old_side, scene_at, staying_side}
use Rattle.scenes.specs.Law.{Follows}
use Rattle.scenes.proofs.Masks.{mask_has}

pub begun_by : (number phase : ℕ) (last : Side) (b : Bool) → old_side (cond b (Move (staying_side number phase last) (coming_side number phase last)) (Refresh (staying_side number phase last))) ≡ staying_side number phase last
begun_by number phase last true = refl
begun_by number phase last false = refl

-- the committee that held the key begins the next phase
pub old_is : (members bound number phase : ℕ) → old_side (scene_at members bound number (suc phase)) ≡ staying_side number (suc phase) (new_side (scene_at members bound number phase))
unfolding scene_at
old_is members bound number phase = begun_by number (suc phase) (new_side (scene_at members bound number phase)) (eqb (suc phase % 3) 0)

pub follows : (members bound number phase : ℕ) → Follows (scene_at members bound number phase) (scene_at members bound number (suc phase))
follows members bound number phase =
    let last : Side = new_side (scene_at members bound number phase) in
    let old : old_side (scene_at members bound number (suc phase)) ≡ staying_side number (suc phase) last = old_is members bound number phase in
    let shareless : (member : ℕ) → 1 ≤ member → member ≤ last.members → has (old_side (scene_at members bound number (suc phase))).shareless member ≡ is_down_on last member =
    λ member from to. ap (λ (side : Side). has side.shareless member) old ∙ mask_has last.members (is_down_on last) member from to in
    record {
      members = ap (λ (side : Side). side.members) old;
      bound = ap (λ (side : Side). side.bound) old;
      shareless = shareless;
      stays = λ member from to down.
          or_left (has (old_side (scene_at members bound number (suc phase))).shareless member) (is_drilled (old_side (scene_at members bound number (suc phase))).drilled member) (shareless member from to ∙ down);
    }

pub scenes_follow : (members bound number phase : ℕ) → Follows (scene_at members bound number phase) (scene_at members bound number (phase + 1))
scenes_follow members bound number phase =
    subst (λ (k : ℕ). Follows (scene_at members bound number phase) (scene_at members bound number k)) (sym (add-one phase)) (follows members bound number phase)
