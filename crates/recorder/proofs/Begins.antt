-- The shares with which a drawn phase begins, and those of a test.
use Rattle.std.proofs.Common.{ℕ, zero, suc, ◌≤◌, List, replicate, Option, sym, subst, arith}
use Rattle.algebra61.specs.Field.{Fp, oneₚ}
use Rattle.scenes.specs.declared.scene.Scene.{Scene}
use Rattle.scenes.specs.declared.scene.Scene.TheVariants.{Create, Refresh, Move}
use Rattle.scenes.specs.Scenes.{old_side, scene_at}
use Rattle.rehearsal_laws.specs.Played.{IsLater}
use Rattle.rehearsal_laws.proofs.Phases.{first_scene, later_scene}
use Rattle.recorder.specs.Begun.{HaveShares, IsBegun}

-- a key and shares that are 1 in each lane
abbrev pub ones : List Fp
ones = replicate 5 oneₚ

-- a later phase begins where each member has shares but those whom it has without
pub begun_later : (place : ℕ) (scene : Scene) (shares : List (Option (List Fp))) → 1 ≤ place → place ≤ 64 → IsLater scene → HaveShares (old_side scene) shares → IsBegun place scene shares
begun_later place (Create side) shares from to later have = absurd later
begun_later place (Refresh side) shares from to later have = (from, to, have)
begun_later place (Move old new) shares from to later have = (from, to, have)

pub begins_at : (members bound number place : ℕ) (shares : List (Option (List Fp))) → place ≤ 64 → HaveShares (old_side (scene_at members bound number place)) shares → IsBegun place (scene_at members bound number place) shares
begins_at members bound number zero shares to have = subst (λ (scene : Scene). IsBegun 0 scene shares) (sym (first_scene members bound number)) tt
begins_at members bound number (suc last) shares to have =
    begun_later (suc last) (scene_at members bound number (suc last)) shares (omega arith) to (later_scene members bound number last) have
