-- A member attended on each seat of a command's phase.
use Rattle.std.proofs.Common.{ℕ, List, Option, subst}
use Rattle.shelf.specs.Held.{Held}
use Rattle.keyroom.specs.Words.{Command, ReadsAs}
use Rattle.keyroom.proofs.Spelling.{same_command}
use Rattle.committee.specs.Crews.{AllAttended, AllAttendedFor}

-- the words are one command
pub attended_for : (words : List (List ℕ)) (command : Command) (held : Option Held) (before now : ℕ) → ReadsAs words command → AllAttended command held before now → AllAttendedFor words held before now
attended_for words command held before now reads all other again = subst (λ (c : Command). AllAttended c held before now) (same_command words command other reads again) all
