-- How the log of one pen grows.
use Rattle.std.specs.Prelude.{◌≡◌, ℕ, ◌≤◌, List, length, Some}
use Rattle.talk.specs.declared.messages.Say.{Say}
use Rattle.talk.specs.declared.messages.Say.TheVariants.{Speak, Pass, PassThenSpeak}
use Rattle.roundboard.specs.declared.view.Event.{Event}
use Rattle.roundboard.specs.declared.view.Deed.TheVariants.{Posted, Passed}
use Rattle.roundboard.specs.Rule.{In, event}
use Rattle.roundboard.specs.declared.cells.Cells.{Cells}
use Rattle.roundboard.specs.Cells.{knows}

-- nothing was posted or passed in this round or later
pub record Fresh (round : ℕ) (events : List Event) : Type 0 where
  pub posts : (later place word : ℕ) → round ≤ later → In (event later (Posted place word)) events → ⊥
  pub passes : (later place word : ℕ) → round ≤ later → In (event later (Passed place word)) events → ⊥

-- what was known of a cell stays known
abbrev pub OnlyLearns : {T : Type 0} → Cells T → Cells T → Type 0
OnlyLearns {T} before after = (cell : ℕ) (value : T) → knows before cell ≡ Some value → knows after cell ≡ Some value

-- nothing was posted in the round, and nothing was passed
abbrev pub NoPostIn : ℕ → List Event → Type 0
NoPostIn round events = (place word : ℕ) → In (event round (Posted place word)) events → ⊥

abbrev pub NoPassIn : ℕ → List Event → Type 0
NoPassIn round events = (place word : ℕ) → In (event round (Passed place word)) events → ⊥

-- the place posted in the round and did not pass in it
abbrev pub InTimeAt : ℕ → ℕ → List Event → Type 0
InTimeAt round place events =
    ((word : ℕ) × In (event round (Posted place word)) events)
    × ((word : ℕ) → In (event round (Passed place word)) events → ⊥)

-- the place posted in the round
abbrev pub PostedAt : ℕ → ℕ → List Event → Type 0
PostedAt round place events = (word : ℕ) × In (event round (Posted place word)) events

-- the word has a ring message for each of so many seats
abbrev pub AllRings : ℕ → Say → Type 0
AllRings count (Speak post rings) = length rings ≡ count
AllRings count Pass = Unit {0}
AllRings count (PassThenSpeak post rings) = length rings ≡ count
