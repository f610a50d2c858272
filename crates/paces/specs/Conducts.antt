-- What a conductor does.
use Rattle.std.specs.Prelude.{◌≡◌, ℕ, ◌+◌, ◌≤◌, ◌⊎◌, List}
use Rattle.counters.specs.Counts.{Rose}
use Rattle.roundboard.specs.declared.view.Event.{Event}
use Rattle.roundboard.specs.Rule.{IsPart}
use Rattle.roundboard.specs.Sheets.{sheet_of}

-- The log of a warden beside its pace, which had named seats `first` times when the phase began. Rounds count from 0 in the log and from 1 for the pace
pub record Paced (cuts asked : ℕ → ℕ) (answered first : ℕ) (log : List Event) : Type 0 where
  -- what was cut is a part of what was answered
  pub part : (r : ℕ) → IsPart (sheet_of log r).cut (cuts (r + 1))
  -- it was asked at most as often as the warden looked who is missing
  pub shown : (r : ℕ) → asked (r + 1) ≤ (sheet_of log r).shown
  pub grown : first ≤ answered
  -- nobody was cut where no answer named a seat
  pub quiet : ((r : ℕ) → (sheet_of log r).cut ≡ 0) ⊎ Rose first answered
