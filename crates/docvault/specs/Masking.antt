-- One step of the cipher over a list: some bytes of one word, exclusive-or.
use Rattle.std.specs.Prelude.{◌≡◌, ◌<◌, ◌≤◌, ◌+◌, ◌-◌, ℕ, List, length, slice_index, bit_xor}
use Rattle.std.specs.Int.{byte_at}

-- the first `count` bytes of a word were taken, exclusive-or, into those from a place on, and all others stand
pub record IsMasked (old new : List ℕ) (place count word : ℕ) : Type 0 where
  pub as_long : length new ≡ length old
  pub before : (k : ℕ) → k < place → slice_index new k ≡ slice_index old k
  pub within : (k : ℕ) → place ≤ k → k < place + count → slice_index new k ≡ bit_xor (slice_index old k) (byte_at (k - place) word)
  pub behind : (k : ℕ) → place + count ≤ k → slice_index new k ≡ slice_index old k
