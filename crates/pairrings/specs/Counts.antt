-- Counts that stand still at the last number of their type.
use Rattle.std.specs.Prelude.{ℕ, ◌+◌, ◌-◌, ◌^◌, min}

-- a count of 32 bits of n things
abbrev pub counted32 : ℕ → ℕ
counted32 n = min n (2 ^ 32 - 1)

-- a count of 64 bits that was raised by one
abbrev pub raised64 : ℕ → ℕ
raised64 n = min (n + 1) (2 ^ 64 - 1)
