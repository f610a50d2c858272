-- The life of a key, as far as it was played.
use Rattle.std.specs.Prelude.{◌≡◌, ℕ, ◌-◌, ◌≤◌, List, cond, length, map, get_or, Option, None}
use Rattle.algebra61.specs.Field.{Fp}
use Rattle.std.specs.List.{sum_by}
use Rattle.talk.specs.Shape.{seats}
use Rattle.talk.specs.Sync.{has}
use Rattle.plays.specs.Said.{points_up_to}
use Rattle.viewshift.specs.Walk.{IsAt}
use Rattle.scenes.specs.declared.scene.Scene.{Scene}
use Rattle.scenes.specs.Orders.{shape_of}
use Rattle.rehearsal_laws.specs.Rehearsal.{ArePhases, accepted_in}
use Rattle.rehearsal.specs.declared.life.Life.{Life}

-- what a member begins a phase with that has the members of a mask without: the shares that the phase before left it
abbrev pub kept_of : ℕ → List (Option (List Fp)) → ℕ → Option (List Fp)
kept_of shareless shares member = cond (has shareless member) None (get_or shares (member - 1) None)

-- so it is for all of them
abbrev pub begun_with : ℕ → List (Option (List Fp)) → List (Option (List Fp))
begun_with shareless shares = map (kept_of shareless shares) (points_up_to (length shares))

-- how many seats phases have together
abbrev pub seats_in : List Scene → ℕ
seats_in scenes = sum_by (λ scene. seats (shape_of scene)) scenes

-- the phases are the first ones of the rehearsal from a number that a committee of this size and bound begins, with how many
-- instances were accepted in each, and the shares that they leave
pub record IsLived (members bound number : ℕ) (life : Life) : Type 0 where
  pub phases : ArePhases members bound number life.phases
  pub accepted : life.accepted ≡ accepted_in life.phases
  pub shares : IsAt life.phases (length life.phases) life.shares.items
  pub few : length life.shares.items ≤ 30
