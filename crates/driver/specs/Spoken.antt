-- The masks of a run in which nobody is heard who speaks late.
use Rattle.std.specs.Prelude.{◌≡◌, ℕ, ◌+◌, ◌&&◌, List, [], ◌∷◌}
use Rattle.talk.specs.declared.messages.Say.{Say}
use Rattle.talk.specs.Shape.{Shape}
use Rattle.talk.specs.Sync.{Ways, IsMask, has, speaks, words_of, after_round}

-- in the mask is exactly who was in the one before and speaks in time, of the seats from `seat` on
abbrev pub Spoken : ℕ → ℕ → ℕ → List Say → Type 0
Spoken before mask seat [] = Unit {0}
Spoken before mask seat (word ∷ words) =
    (has mask seat ≡ (has before seat && speaks word)) × Spoken before mask (seat + 1) words

module _ {M : Type 0} where
  -- each mask of the rounds from `round` on is such a one, where `before` is the mask before the first
  abbrev pub AllSpoken : Ways M → Shape → ℕ → ℕ → List ℕ → List M → Type 0
  AllSpoken how setting round before [] minds = Unit {0}
  AllSpoken how setting round before (mask ∷ masks) minds =
      IsMask setting mask
      × Spoken before mask 1 (words_of how round minds)
      × AllSpoken how setting (round + 1) mask masks (after_round how setting round mask minds)
