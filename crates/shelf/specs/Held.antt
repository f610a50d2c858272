-- What a shelf holds, and what changes make of it.
use Rattle.std.specs.Prelude.{ℕ, List, [], ◌∷◌}
use Rattle.std.specs.Ordering.{nat_cmp}
use Rattle.std.specs.Cmp.Lexicographic.{slice_cmp}
use Rattle.std.specs.FinMap.{FinMap, insert, remove}

-- the bytes of each name that is held
abbrev pub Held : Type 0
Held = FinMap (slice_cmp nat_cmp) (List ℕ)

-- one change: a name gets these bytes, or is gone
pub data Change : Type 0 where
  Put : List ℕ → List ℕ → Change
  Remove : List ℕ → Change

-- what is held after one change
abbrev pub after_change : Change → Held → Held
after_change (Put name bytes) held = insert held name bytes
after_change (Remove name) held = remove held name

-- what is held after these changes, the first of them made first
abbrev pub after : List Change → Held → Held
after [] held = held
after (change ∷ changes) held = after changes (after_change change held)
