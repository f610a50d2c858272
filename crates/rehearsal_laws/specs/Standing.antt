-- What the members of a rehearsal begin a phase with: where the key stands, who has shares, and their seeds.
use Rattle.std.specs.Prelude.{ℕ, ◌+◌, List, [], ◌∷◌, map, not, codes, Option, Some, None}
use Rattle.std.specs.List.{filter, range_with_len}
use Rattle.algebra61.specs.Field.{Fp}
use Rattle.talk.specs.Sync.{has}
use Rattle.sharefile.specs.Files.{Now}
use Rattle.keyroom.specs.declared.steps.Found.{Found}
use Rattle.keyroom.specs.declared.steps.Found.TheVariants.{Absent, Valid}
use Rattle.commands.specs.Period.{share_with}
use Rattle.commands.specs.Standing.{Standing}
use Rattle.scenes.specs.declared.side.Side.{Side}
use Rattle.scenes.specs.declared.scene.Scene.{Scene}
use Rattle.scenes.specs.Numbers.{seed_of}
use Rattle.scenes.specs.Orders.{orders_of}
use Rattle.scenes.specs.Scenes.{old_side}

-- ---- where the key stands
-- what a key in memory is called: no contract of a phase depends on it
abbrev pub key_name : List ℕ
key_name = codes "k"

-- Before a later phase the committee that begins it holds the key. Phases are numbered from 0 and periods from 1, so the
-- period that a phase ends has the number of the phase
abbrev pub now_before : ℕ → Side → Now
now_before place side = record {
  name = key_name;
  n = side.members;
  t = side.bound;
  period = place;
  next_number = 0;
  link = None;
}

-- the share file of a member that has shares, in memory
abbrev pub file_with : Now → ℕ → Option (List Fp) → Found
file_with now member None = Absent
file_with now member (Some lanes) = Valid (share_with now member lanes)

-- those of all members, the first of which is this one
abbrev pub files_with : Now → ℕ → List (Option (List Fp)) → List Found
files_with now member [] = []
files_with now member (shares ∷ rest) = file_with now member shares ∷ files_with now (member + 1) rest

-- what a command finds that would play the phase: the key, these shares by member, and the orders of the phase
abbrev pub standing_before : ℕ → Scene → List (Option (List Fp)) → Standing
standing_before place scene shares = record {
  now = now_before place (old_side scene);
  files = files_with (now_before place (old_side scene)) 1 shares;
  orders = orders_of scene;
}

-- ---- the seeds
-- those of the create: one for each member, by index
abbrev pub first_seeds : ℕ → ℕ → List (List ℕ)
first_seeds number members = map (seed_of number 0) (range_with_len 1 members)

-- those of a later phase: one for each member that has shares, by index
abbrev pub later_seeds : ℕ → ℕ → Side → List (List ℕ)
later_seeds number place side =
    map (seed_of number place) (filter (λ member. not (has side.shareless member)) (range_with_len 1 side.members))
