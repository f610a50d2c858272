-- The numbers that a rehearsal is drawn from, and the seeds of its members.
use Rattle.std.specs.Prelude.{ℕ, zero, suc, ◌+◌, ◌*◌, ◌/◌, ◌%◌, ◌^◌, List, ◌++◌}
use Rattle.byteorder.specs.Endian.{big_bytes}

-- one step of the generator: a linear congruence of 64 bits
abbrev pub next_number : ℕ → ℕ
next_number x = (6364136223846793005 * x + 1442695040888963407) % 2 ^ 64

-- where it stands after so many steps from a number
unfoldable pub number_after : ℕ → ℕ → ℕ
number_after number zero = number
number_after number (suc steps) = next_number (number_after number steps)

-- the draw with this place, from 1: the upper 31 bits
unfoldable pub draw : ℕ → ℕ → ℕ
draw number place = number_after number place / 2 ^ 33

-- the seed of the member on a seat in a phase: four numbers of eight bytes, most significant first
abbrev pub seed_of : ℕ → ℕ → ℕ → List ℕ
seed_of number phase seat = big_bytes 8 number ++ (big_bytes 8 phase ++ (big_bytes 8 seat ++ big_bytes 8 0))
