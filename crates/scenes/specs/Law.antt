-- Laws of the phases of a rehearsal.
use Rattle.std.specs.Prelude.{◌≡◌, ℕ, ◌+◌, ◌^◌, ◌<◌, ◌≤◌, true, false}
use Rattle.sizes.specs.Committees.{is_bound, is_size}
use Rattle.sharing61.specs.Count.{how_many}
use Rattle.talk.specs.Sync.{has}
use Rattle.scenes.specs.declared.side.Side.{Side}
use Rattle.scenes.specs.declared.scene.Scene.{Scene}
use Rattle.scenes.specs.Scenes.{is_drilled, is_down_on, down_count, new_side, old_side, scene_at}
use Rattle.scenes.specs.Exposed.{exposed_at}

-- ---- what a committee in a phase is
-- a committee that a command can make, with one of four manners
pub record IsSide (side : Side) : Type 0 where
  pub size : is_size side.members ≡ true
  pub bound : is_bound side.members side.bound ≡ true
  -- its mask has members alone
  pub members : side.shareless < 2 ^ side.members
  -- the drilled one is a member that has a share
  pub drilled : (member : ℕ) → is_drilled side.drilled member ≡ true → (1 ≤ member) × (member ≤ side.members) × (has side.shareless member ≡ false)
  pub manner : side.manner < 4
  -- at most its bound is down
  pub few : down_count side ≤ side.bound

abbrev pub AreSides : Scene → Type 0
AreSides scene = IsSide (old_side scene) × IsSide (new_side scene)

-- the phases of a rehearsal that a command's committee begins
abbrev pub ScenesAreOfCommittees : Type 0
ScenesAreOfCommittees = (members bound number phase : ℕ) → is_size members ≡ true → is_bound members bound ≡ true → AreSides (scene_at members bound number phase)

-- ---- how phases follow each other
-- the committee that held the key begins the next phase, and who was down has no share in it
pub record Follows (before after : Scene) : Type 0 where
  pub members : (old_side after).members ≡ (new_side before).members
  pub bound : (old_side after).bound ≡ (new_side before).bound
  pub shareless : (member : ℕ) → 1 ≤ member → member ≤ (new_side before).members →
      has (old_side after).shareless member ≡ is_down_on (new_side before) member
  -- and is down in it
  pub stays : (member : ℕ) → 1 ≤ member → member ≤ (new_side before).members → is_down_on (new_side before) member ≡ true →
      is_down_on (old_side after) member ≡ true

abbrev pub ScenesFollow : Type 0
ScenesFollow = (members bound number phase : ℕ) → is_size members ≡ true → is_bound members bound ≡ true →
    Follows (scene_at members bound number phase) (scene_at members bound number (phase + 1))

-- ---- who is exposed
-- in the period between a phase and the next, or after the last
pub record AreExposed (members bound number periods phase : ℕ) : Type 0 where
  -- the mask has members alone
  pub mask : exposed_at members bound number periods phase < 2 ^ (new_side (scene_at members bound number phase)).members
  -- exactly as many as the bound
  pub count : how_many (new_side (scene_at members bound number phase)).members (has (exposed_at members bound number periods phase)) ≡ (new_side (scene_at members bound number phase)).bound
  -- all who are down in the phase before are
  pub seen : (member : ℕ) → 1 ≤ member → member ≤ (new_side (scene_at members bound number phase)).members →
      is_down_on (new_side (scene_at members bound number phase)) member ≡ true → has (exposed_at members bound number periods phase) member ≡ true
  -- and in the phase after
  pub seen_after : phase < periods → (member : ℕ) → 1 ≤ member → member ≤ (new_side (scene_at members bound number phase)).members →
      is_down_on (old_side (scene_at members bound number (phase + 1))) member ≡ true → has (exposed_at members bound number periods phase) member ≡ true

abbrev pub TheExposedAreAsMany : Type 0
TheExposedAreAsMany = (members bound number periods phase : ℕ) → is_size members ≡ true → is_bound members bound ≡ true → AreExposed members bound number periods phase
