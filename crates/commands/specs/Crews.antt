-- What a phase leaves of the crew that it is lent, and who attended.
use Rattle.std.specs.Prelude.{◌≡◌, ◌≤◌, ℕ, ◌+◌, ◌-◌, ◌^◌, List, min, Option, IfSome, Ok}
use Rattle.shelf.specs.Held.{Held}
use Rattle.sharefile.specs.Files.{Now}
use Rattle.keyroom.specs.Steps.{now_of}

-- neither count of a crew fell, and a calm crew is calm still
pub record Lent {C : Type 0} (fault_count attended_count : C → ℕ) (calm : C → Type 0) (old new : C) : Type 0 where
  pub faults : fault_count old ≤ fault_count new
  pub attended : attended_count old ≤ attended_count new
  pub stays_calm : calm old → calm new

-- so many members attended since then, at least, or the number stands at its last value
abbrev pub Attended : ℕ → ℕ → ℕ → Type 0
Attended count before now = min (before + count) (2 ^ 64 - 1) ≤ now

-- So many members attended as the phase of a command has seats, which the now file of this name tells.
abbrev pub AllSeatsAttended : List ℕ → (Now → ℕ) → Option Held → ℕ → ℕ → Type 0
AllSeatsAttended name seats held before now = IfSome held (λ m. (file : Now) → now_of name m ≡ Ok file → Attended (seats file) before now)
