-- How a key goes on to its next period, with the same committee or with another one: what stands after each part of the
-- changes, from the front.
use Rattle.std.specs.Prelude.{◌≡◌, ℕ, ◌+◌, ◌<◌, ◌≤◌, Bool, cond, List, length, take, Some, None}
use Rattle.std.specs.FinMap.{get}
use Rattle.algebra61.specs.Field.{Fp}
use Rattle.shelf.specs.Held.{Held, Change, after}
use Rattle.sharefile.specs.Files.{Now, IsNow, now_bytes, share_bytes}
use Rattle.keyroom.specs.Names.{now_name, share_name}
use Rattle.commands.specs.Period.{share_with, next_changes}

-- the second now file is that of the next period of the key
pub record IsNext (before now : Now) : Type 0 where
  pub was : IsNow before
  pub is : IsNow now
  pub name : now.name ≡ before.name
  pub period : now.period ≡ before.period + 1

-- what stands under the name of the key's now file, and under those of the share files of this period, is as before
pub record IsLeft (now : Now) (old new : Held) : Type 0 where
  pub now_file : get new (now_name now.name) ≡ get old (now_name now.name)
  pub share_files : (index : ℕ) →
      get new (share_name now.name now.period index) ≡ get old (share_name now.name now.period index)

-- the period has begun: its now file is held, and of its members' share files those of who isn't down, with these lanes
pub record HasBegun (now : Now) (down : ℕ → Bool) (lanes : ℕ → List Fp) (held : Held) : Type 0 where
  pub now_file : get held (now_name now.name) ≡ Some (now_bytes now)
  pub share_files : (index : ℕ) → 1 ≤ index → index ≤ now.n →
      get held (share_name now.name now.period index)
      ≡ cond (down index) None (Some (share_bytes (share_with now index (lanes index))))

-- With one of the changes the key goes on: until then what stood is left, and from then on the next period has begun,
-- whichever of the further changes are made.
pub record GoesOn (before now : Now) (down : ℕ → Bool) (lanes : ℕ → List Fp) (changes : List Change) (held : Held) : Type 0 where
  pub place : ℕ
  pub there : place < length changes
  pub early : (count : ℕ) → count ≤ place → IsLeft before held (after (take count changes) held)
  pub late : (count : ℕ) → place < count → HasBegun now down lanes (after (take count changes) held)

-- so it is of the changes with which each next period begins
abbrev pub PeriodsGoOn : Type 0
PeriodsGoOn =
    (before now : Now) (down : ℕ → Bool) (lanes : ℕ → List Fp) (held : Held) →
    IsNext before now → GoesOn before now down lanes (next_changes before now down lanes) held
