-- Masks by what holds of their places. A place is a seat less 1.
use Rattle.std.specs.Prelude.{◌≡◌, ℕ, ◌+◌, ◌<◌, List, Contains}
use Rattle.std.specs.Int.{bit_at}

-- the mask has exactly those of the first n places of which P holds
pub record Picked (n : ℕ) (P : ℕ → Type 0) (mask : ℕ) : Type 0 where
  pub low : (k : ℕ) → bit_at mask k ≡ 1 → k < n
  pub holds : (k : ℕ) → bit_at mask k ≡ 1 → P k
  pub all : (k : ℕ) → k < n → P k → bit_at mask k ≡ 1

-- the place is missing in an arrivals word: it has neither its posted nor its passed bit
abbrev pub IsMissing : ℕ → ℕ → Type 0
IsMissing word k = (bit_at word k ≡ 0) × (bit_at word (30 + k) ≡ 0)

-- the place is missing, and the list of rounds and seats has it for the round
abbrev pub IsScripted : List (ℕ × ℕ) → ℕ → ℕ → ℕ → Type 0
IsScripted list round missing k = (bit_at missing k ≡ 1) × Contains list (round, k + 1)
