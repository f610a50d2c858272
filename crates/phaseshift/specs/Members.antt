-- The members that a mask names.
use Rattle.std.specs.Prelude.{ℕ, ◌+◌, Bool}
use Rattle.talk.specs.Sync.{has}

-- the bits of a mask from a place on, as a set of members
abbrev pub behind : ℕ → ℕ → ℕ → Bool
behind mask shift k = has mask (shift + k)
