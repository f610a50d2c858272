-- Committees: how many members they have, and how many of them may be faulty. Members are numbered from 1.
use Rattle.std.specs.Prelude.{ℕ, ◌*◌, ◌<◌, ◌≤◌, Bool, ◌&&◌, ◌||◌, ◌==◌, nat_le, nat_lt}

-- a committee of n members of whom t may be faulty
pub record IsCommittee (n t : ℕ) : Type 0 where
  pub some_bad : 1 ≤ t
  pub third : 3 * t < n
  pub most : n ≤ 15

-- at least one member may be faulty, and fewer than a third of all
abbrev pub is_bound : ℕ → ℕ → Bool
is_bound n t = nat_le 1 t && nat_lt (3 * t) n

-- the sizes of a committee that the library has
abbrev pub is_library_size : ℕ → Bool
is_library_size n = nat_le 4 n && nat_le n 15

-- the sizes of a committee that a command can make
abbrev pub is_size : ℕ → Bool
is_size n = (n == 4) || (n == 5) || (n == 7) || (n == 10) || (n == 13)

-- a member of a committee of n
abbrev pub is_index : ℕ → ℕ → Bool
is_index n index = nat_le 1 index && nat_le index n
