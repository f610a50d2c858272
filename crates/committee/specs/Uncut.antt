-- Where nobody is cut the words and the outside have one status.
use Rattle.std.specs.Prelude.{◌≡◌, ◌⊎◌, ℕ, List}
use Rattle.commands.specs.Uncut.{IsUncut}
use Rattle.keyroom.specs.Outcome.{Outcome}
use Rattle.committee.specs.Meaning.{Given, Means, ComeToMove}

-- where nobody is cut the words and the outside have one status, but for a move that comes to its phase
abbrev pub UncutHaveOneStatus : Type 0
UncutHaveOneStatus =
    (words : List (List ℕ)) (given : Given) (a b : Outcome) → IsUncut given.cuts → Means words given a → Means words given b →
    (a.status ≡ b.status) ⊎ ComeToMove words given.held
