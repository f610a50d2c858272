-- Primality, by divisors.
use Rattle.std.specs.Prelude.{◌≡◌, ℕ, ◌*◌, ◌<◌, ◌≤◌}

-- no number from 2 to n - 1 divides n
abbrev pub NoDivisor : ℕ → Type 0
NoDivisor n = (d e : ℕ) → 2 ≤ d → d < n → d * e ≡ n → ⊥
