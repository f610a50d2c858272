-- Who attended a command.
use Rattle.std.specs.Prelude.{ℕ, ◌+◌, List, Option}
use Rattle.shelf.specs.Held.{Held}
use Rattle.keyroom.specs.Words.{Command, Create, Refresh, Move, Recover, Check, Seal, Open, Rehearse, ReadsAs}
use Rattle.commands.specs.Crews.{Attended, AllSeatsAttended}
use Rattle.committee.specs.Rehearse.{rehearsal_seats}

-- A member attended on each seat of a command's phase: the members of the committee, and those of both in a move. The old
-- committee is that of the now file. In a rehearsal one attended on each seat of each phase.
abbrev pub AllAttended : Command → Option Held → ℕ → ℕ → Type 0
AllAttended (Create name n t drill) held before now = Attended n before now
AllAttended (Refresh name drill) held before now = AllSeatsAttended name (λ file. file.n) held before now
AllAttended (Move name size bound drill) held before now = AllSeatsAttended name (λ file. file.n + size) held before now
AllAttended (Recover name) held before now = Unit {0}
AllAttended (Check name) held before now = Unit {0}
AllAttended (Seal name doc target) held before now = Unit {0}
AllAttended (Open name source target) held before now = Unit {0}
AllAttended (Rehearse members bound periods number) held before now = Attended (rehearsal_seats members bound periods number) before now

-- the same of the command that the words are
abbrev pub AllAttendedFor : List (List ℕ) → Option Held → ℕ → ℕ → Type 0
AllAttendedFor words held before now = (command : Command) → ReadsAs words command → AllAttended command held before now
