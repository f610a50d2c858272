-- Counts of 64 bits that rise by one and never fall. At its last value a count stands still, and is then said to have risen.
use Rattle.std.specs.Prelude.{◌≡◌, ◌≤◌, ℕ, ◌+◌, ◌-◌, ◌^◌, min}

-- the count rose once or more
abbrev pub Rose : ℕ → ℕ → Type 0
Rose before now = min (before + 1) (2 ^ 64 - 1) ≤ now

-- the count rose once
abbrev pub RoseByOne : ℕ → ℕ → Type 0
RoseByOne before now = now ≡ min (before + 1) (2 ^ 64 - 1)
