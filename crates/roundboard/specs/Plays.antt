-- What each step tells: of the step, the seat before, the number found and the seat after.
use Rattle.std.specs.Prelude.{◌≡◌, ℕ, ◌+◌, ◌*◌, ◌^◌, ◌≤◌, ◌⊎◌}
use Rattle.std.specs.Int.{bit_at}
use Rattle.atomic_table.specs.Table.{Me, Step}
use Rattle.roundboard.specs.declared.view.View.{View}
use Rattle.roundboard.specs.declared.view.Deed.TheVariants.{Posted, Passed, Closed, Lost, Published, Looked, Aborted, SawControl, Cut}
use Rattle.roundboard.specs.Rule.{In, control_round, event, with_event, arrivals_of, frozen_of, frozen_word}

-- what a seat is at one moment
abbrev pub Sat : Type 0
Sat = Me (Unit {0}) View

-- what a step may tell
abbrev pub StepTells : Type 1
StepTells = Step (Unit {0}) → Sat → ℕ → Sat → Type 0

-- a post that found the word closed found the passed bit of its place
abbrev pub posted : StepTells
posted step old found new = (round place : ℕ) → step.word ≡ arrivals_of round → step.first ≡ 2 ^ place
    → (new ≡ (with_event round (Posted place found) old.0, old.1))
    × (bit_at found 63 ≡ 1 → bit_at found (30 + place) ≡ 1)

abbrev pub passed : StepTells
passed step old found new = (round place : ℕ) → step.word ≡ arrivals_of round → step.first ≡ 2 ^ (30 + place)
    → new ≡ (with_event round (Passed place found) old.0, old.1)

-- the passed bits of all places of the mask are set at once
abbrev pub cut : StepTells
cut step old found new = (round mask : ℕ) → step.word ≡ arrivals_of round → step.first ≡ mask * 2 ^ 30
    → new ≡ (with_event round (Cut mask found) old.0, old.1)

-- a closing step that found the word closed comes too late
abbrev pub closed : StepTells
closed step old found new = (round : ℕ) → step.word ≡ arrivals_of round
    → (bit_at found 63 ≡ 0 → new ≡ (with_event round (Closed found) old.0, old.1))
    × (bit_at found 63 ≡ 1 → new ≡ (with_event round (Lost found) old.0, old.1))

abbrev pub published : StepTells
published step old found new = (round closing : ℕ) → step.word ≡ frozen_of round
    → In (event round (Closed closing)) old.0.events → new ≡ (with_event round (Published closing) old.0, old.1)

-- what was seen is found again
abbrev pub looked : StepTells
looked step old found new = (round : ℕ) → step.word ≡ frozen_of round
    → (new ≡ (with_event round (Looked found) old.0, old.1))
    × ((before : ℕ) → In (event round (Looked before)) old.0.events → (before ≡ 0) ⊎ (before ≡ found))
    × ((closing : ℕ) → In (event round (Published closing)) old.0.events → found ≡ frozen_word closing)

abbrev pub aborted : StepTells
aborted step old found new = new ≡ (with_event control_round Aborted old.0, old.1)

-- who has aborted, and who has found the abort bit, finds it
abbrev pub controlled : StepTells
controlled step old found new = (new ≡ (with_event control_round (SawControl found) old.0, old.1))
    × (In (event control_round Aborted) old.0.events → bit_at found 0 ≡ 1)
    × ((before : ℕ) → In (event control_round (SawControl before)) old.0.events
    → bit_at before 0 ≤ bit_at found 0)
