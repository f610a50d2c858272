-- Who is exposed in the period that a phase of a rehearsal begins.
use Rattle.std.specs.Prelude.{ℕ, ◌+◌, ◌-◌, Bool, ◌||◌, not, cond}
use Rattle.std.proofs.Common.{ltb}
use Rattle.sharing61.specs.Count.{how_many}
use Rattle.scenes.specs.declared.side.Side.{Side}
use Rattle.scenes.specs.Members.{mask_of}
use Rattle.scenes.specs.Scenes.{is_down_on, new_side, old_side, scene_at}

-- those of a test on the members 1 to n, and the lowest others, so that they are as many as the bound: another member is
-- taken where fewer others come before it than are wanting
abbrev pub is_filled : ℕ → ℕ → (ℕ → Bool) → ℕ → Bool
is_filled n bound test member = test member || ltb (how_many (member - 1) (λ other. not (test other))) (bound - how_many n test)

-- who is down in the phase that ends the period, or for the last period in the one that begins it
abbrev pub is_seen : ℕ → ℕ → ℕ → ℕ → ℕ → ℕ → Bool
is_seen members bound number periods phase =
    cond (ltb phase periods)
    (is_down_on (old_side (scene_at members bound number (phase + 1))))
    (is_down_on (new_side (scene_at members bound number phase)))

-- filled up to the bound of the committee that holds the key in the period
abbrev pub exposed_on : Side → (ℕ → Bool) → ℕ
exposed_on side seen = mask_of side.members (is_filled side.members side.bound seen)

-- the mask of who is exposed in the period that a phase begins, in a rehearsal of so many periods after the first phase
abbrev pub exposed_at : ℕ → ℕ → ℕ → ℕ → ℕ → ℕ
exposed_at members bound number periods phase =
    exposed_on (new_side (scene_at members bound number phase)) (is_seen members bound number periods phase)
