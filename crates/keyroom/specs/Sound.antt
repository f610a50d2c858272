-- Who takes an honest part in a refresh or a move, and what they ask of the committee and its period.
use Rattle.std.specs.Prelude.{ℕ, ◌+◌, ◌-◌, List, length, get_or, Bool, true, false, not, ◌||◌, ◌==◌, nat_lt, Result, Ok, Err, if◌then◌else◌, nat_le}
use Rattle.std.specs.List.{filter, range_with_len}
use Rattle.sharefile.specs.Files.{Now}
use Rattle.keyroom.specs.declared.status.Status.{Status}
use Rattle.keyroom.specs.declared.status.Status.TheVariants.{TooFewSound, Full}
use Rattle.keyroom.specs.declared.steps.Found.{Found}
use Rattle.keyroom.specs.declared.steps.Found.TheVariants.{Absent, Invalid, Valid}

abbrev pub is_valid : Found → Bool
is_valid Absent = false
is_valid Invalid = false
is_valid (Valid f) = true

-- a member is down where a drill names it, or it has no valid share file; `named` says whom the drill names
abbrev pub is_down : (ℕ → Bool) → List Found → ℕ → Bool
is_down named files index = named index || not (is_valid (get_or files (index - 1) Absent))

-- In a move the old members sit on the first seats, the new ones behind them. An old member is down as in a refresh, a new
-- one exactly where a drill names its seat.
abbrev pub is_down_in_move : (ℕ → Bool) → List Found → ℕ → Bool
is_down_in_move named files seat = if nat_le seat (length files) then is_down named files seat else named seat

-- the sound members, by index: those that aren't down
abbrev pub sound_among : (ℕ → Bool) → List Found → List ℕ
sound_among named files = filter (λ index. not (is_down named files index)) (range_with_len 1 (length files))

-- step: at least N - T members must be sound
abbrev pub enough_sound : Now → List ℕ → Result (Unit {0}) Status
enough_sound now sound = if nat_lt (length sound) (now.n - now.t) then Err (TooFewSound (length sound) (now.n - now.t)) else Ok tt

-- step: the period must not be the last one; this is the next
abbrev pub next_period_of : Now → Result ℕ Status
next_period_of now = if now.period == 4294967295 then Err (Full 4294967295) else Ok (now.period + 1)
