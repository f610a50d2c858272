-- The phases of a rehearsal, from 0: a create, then refreshes, and a move in each third; and who is down in each.
use Rattle.std.specs.Prelude.{◌≡◌, ℕ, zero, suc, ◌+◌, ◌-◌, ◌*◌, ◌/◌, ◌%◌, Bool, false, ◌||◌, eqb, cond, Option, Some, None}
use Rattle.std.proofs.Common.{leb}
use Rattle.sharing61.specs.Count.{how_many}
use Rattle.talk.specs.Sync.{has}
use Rattle.scenes.specs.declared.side.Side.{Side}
use Rattle.scenes.specs.declared.scene.Scene.{Scene}
use Rattle.scenes.specs.declared.scene.Scene.TheVariants.{Create, Refresh, Move}
use Rattle.scenes.specs.Numbers.{draw, number_after}
use Rattle.scenes.specs.Members.{mask_of, first_unnamed, size_after, largest_bound}

-- ---- a committee in a phase
-- whom a draw drills: nobody where as many as the bound have no share, else the first in the circle who has one
abbrev pub drilled_by : ℕ → ℕ → ℕ → ℕ → Option ℕ
drilled_by members bound shareless draw = cond (leb bound (how_many members (has shareless))) None (first_unnamed members draw (has shareless))

-- with these two draws
abbrev pub side_with : ℕ → ℕ → ℕ → ℕ → ℕ → Side
side_with members bound shareless who how = record {
  members = members;
  bound = bound;
  shareless = shareless;
  drilled = drilled_by members bound shareless who;
  manner = how % 4;
}

-- the member is the drilled one
abbrev pub is_drilled : Option ℕ → ℕ → Bool
is_drilled None member = false
is_drilled (Some drilled) member = eqb drilled member

-- who is down: those without a share, and the drilled one
abbrev pub is_down_on : Side → ℕ → Bool
is_down_on side member = has side.shareless member || is_drilled side.drilled member

abbrev pub down_mask : Side → ℕ
down_mask side = mask_of side.members (is_down_on side)

-- how many are down
abbrev pub down_count : Side → ℕ
down_count side = how_many side.members (is_down_on side)

-- ---- a phase
-- the committee that holds the key after a phase
abbrev pub new_side : Scene → Side
new_side (Create side) = side
new_side (Refresh side) = side
new_side (Move old new) = new

-- the one that begins it
abbrev pub old_side : Scene → Side
old_side (Create side) = side
old_side (Refresh side) = side
old_side (Move old new) = old

-- how many draws the phases before this one take: two for each committee, of which a move has two
abbrev pub draws_before : ℕ → ℕ
draws_before phase = 2 * (phase + (phase - 1) / 3)

-- a committee for which the two draws after so many others are taken
abbrev pub side_drawn : ℕ → ℕ → ℕ → ℕ → ℕ → Side
side_drawn number before members bound shareless = side_with members bound shareless (draw number (before + 1)) (draw number (before + 2))

-- the committee of a phase before which this one held the key: who was down then has no share
abbrev pub staying_side : ℕ → ℕ → Side → Side
staying_side number phase last = side_drawn number (draws_before phase) last.members last.bound (down_mask last)

-- the committee to which a phase moves the key: the next in the circle of sizes, with the largest bound and nobody without
-- a share
abbrev pub coming_side : ℕ → ℕ → Side → Side
coming_side number phase last =
    side_drawn number (draws_before phase + 2) (size_after last.members) (largest_bound (size_after last.members)) 0

-- a later phase, before which this committee held the key: each third is a move
abbrev pub scene_after : ℕ → ℕ → Side → Scene
scene_after number phase last =
    cond (eqb (phase % 3) 0) (Move (staying_side number phase last) (coming_side number phase last)) (Refresh (staying_side number phase last))

-- a phase of the rehearsal from a number that a committee of this size and bound begins
unfoldable pub scene_at : ℕ → ℕ → ℕ → ℕ → Scene
scene_at members bound number zero = Create (side_drawn number 0 members bound 0)
scene_at members bound number (suc before) = scene_after number (suc before) (new_side (scene_at members bound number before))

-- a rehearsal has come to a phase: the phase is at hand, and the generator stands behind its draws
pub record HasCome (members bound number phase : ℕ) (scene : Scene) (state : ℕ) : Type 0 where
  pub scene_is : scene ≡ scene_at members bound number phase
  pub state_is : state ≡ number_after number (draws_before (phase + 1))
