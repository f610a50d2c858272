-- The changes with which a period begins.
use Rattle.std.specs.Prelude.{ℕ, ◌-◌, Bool, not, List, [], ◌∷◌, ◌++◌, map}
use Rattle.std.specs.List.{range_with_len, filter}
use Rattle.algebra61.specs.Field.{Fp}
use Rattle.shelf.specs.Held.{Change, Put, Remove}
use Rattle.sharefile.specs.Files.{Now, Share, committee_of, now_bytes, share_bytes}
use Rattle.keyroom.specs.Names.{now_name, share_name}

-- the removal of a member's share file in a period
abbrev pub removal : List ℕ → ℕ → ℕ → Change
removal name period index = Remove (share_name name period index)

-- those of the share files 1 to 15
abbrev pub removals : List ℕ → ℕ → List Change
removals name period = map (removal name period) (range_with_len 1 15)

-- the share file of a member with these lanes
abbrev pub share_with : Now → ℕ → List Fp → Share
share_with now index lanes = record { name = now.name; n = now.n; t = now.t; index = index; period = now.period; lanes = lanes; committee = committee_of now }

-- the put of that file
abbrev pub put_with : Now → ℕ → List Fp → Change
put_with now index lanes = Put (share_name now.name now.period index) (share_bytes (share_with now index lanes))

-- the members that get a share file, by index: those that aren't down
abbrev pub up_members : ℕ → (ℕ → Bool) → List ℕ
up_members n down = filter (λ j. not (down j)) (range_with_len 1 n)

-- the share file of each member that isn't down is put, by index, and the now file last: with it the period has begun
abbrev pub period_puts : Now → (ℕ → Bool) → (ℕ → List Fp) → List Change
period_puts now down lanes = map (λ j. put_with now j (lanes j)) (up_members now.n down) ++ Put (now_name now.name) (now_bytes now) ∷ []

-- What a stopped run may have left of the period is removed, then the files of the period are put. Two runs that begin one
-- period, in which the same members are down, have one digest of their committee, since it says who holds a share file and
-- not which shares. So it is by the removals, which come first, that no share file of an earlier run is taken for one of
-- this run.
abbrev pub period_changes : Now → (ℕ → Bool) → (ℕ → List Fp) → List Change
period_changes now down lanes = removals now.name now.period ++ period_puts now down lanes

-- The same behind a period that ends: what an earlier run may have left of the period before it is removed first, and its
-- own share files last, when the new period has begun.
abbrev pub next_changes : Now → Now → (ℕ → Bool) → (ℕ → List Fp) → List Change
next_changes before now down lanes =
    removals before.name (before.period - 1) ++ (period_changes now down lanes ++ removals before.name before.period)
