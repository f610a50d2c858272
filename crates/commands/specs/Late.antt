-- Who is late in a phase, and what a command comes to where too few members are left after it.
use Rattle.std.specs.Prelude.{◌≡◌, ℕ, ◌+◌, ◌-◌, ◌≤◌, ◌^◌, min, Bool, true, false, ◌&&◌, ◌||◌, not, nat_le, nat_lt, if◌then◌else◌, List, [], ◌∷◌, Result, Ok, Err}
use Rattle.sharing61.specs.Count.{how_many}
use Rattle.talk.specs.Sync.{has}
use Rattle.keyroom.specs.declared.status.Status.{Status}
use Rattle.keyroom.specs.declared.status.Status.TheVariants.{TooFewSound}
use Rattle.keyroom.specs.Outcome.{Outcome}

-- the seat is in each of the masks
abbrev pub in_each : List ℕ → ℕ → Bool
in_each [] seat = true
in_each (mask ∷ masks) seat = has mask seat && in_each masks seat

-- a seat is late in a phase with these masks: it wasn't down before, and isn't in each of them
abbrev pub IsLate : (ℕ → Bool) → List ℕ → ℕ → Type 0
IsLate before masks seat = (before seat ≡ false) × (in_each masks seat ≡ false)

-- who is down in the play of a command: who was down before its phase, and who is late in it
abbrev pub down_after : (ℕ → Bool) → List ℕ → ℕ → Bool
down_after before masks seat = before seat || not (in_each masks seat)

-- Who may have been cut in each round of a phase: those that the pace answered for it, where its number of answers that
-- named a seat rose in the call, and nobody where it didn't.
abbrev pub cuts_since : ℕ → ℕ → (ℕ → ℕ) → ℕ → ℕ
cuts_since before now cuts round = if nat_le (min (before + 1) (2 ^ 64 - 1)) now then cuts round else 0

-- The same of a pace from before a call to after it, where `answered_count` is its number of answers that named a seat and
-- `cuts_of` tells whom it answered in each round.
abbrev pub cuts_in : {P : Type 0} → (P → ℕ) → (P → ℕ → ℕ) → P → P → ℕ → ℕ
cuts_in answered_count cuts_of old new = cuts_since (answered_count old) (answered_count new) (cuts_of new)

-- the seat was cut in one of so many rounds
abbrev pub WasCut : (ℕ → ℕ) → ℕ → ℕ → Type 0
WasCut cuts rounds seat = (round : ℕ) × (1 ≤ round) × (round ≤ rounds) × (has (cuts round) seat ≡ true)

-- step behind the phase: at least n - t of the members 1 to n must not be down; it gives how many aren't
abbrev pub enough_after : ℕ → ℕ → (ℕ → Bool) → Result ℕ Status
enough_after n t down =
    if nat_lt (n - how_many n down) (n - t) then Err (TooFewSound (n - how_many n down) (n - t)) else Ok (n - how_many n down)

-- a refusal when so many seeds were taken
abbrev pub refused_after : ℕ → Status → Outcome
refused_after taken status = record { status = status; changes = []; text = []; taken = taken }

-- a command whose phase took so many seeds comes to this outcome, unless the step behind the phase refuses
abbrev pub ended : ℕ → Result ℕ Status → Outcome → Outcome
ended taken (Ok up) outcome = outcome
ended taken (Err status) outcome = refused_after taken status
