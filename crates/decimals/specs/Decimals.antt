-- Which number a word is in decimal.
use Rattle.std.specs.Prelude.{ℕ, ◌+◌, ◌-◌, ◌*◌, ◌^◌, ◌&&◌, cond, List, [], ◌∷◌, Option, Some, None, decimal}
use Rattle.std.specs.Str.{bytes_eq}
use Rattle.std.proofs.Common.{ltb}

-- the number that digits tell, after the number so far
abbrev pub number_on : ℕ → List ℕ → ℕ
number_on n [] = n
number_on n (c ∷ cs) = number_on (10 * n + (c - 48)) cs

abbrev pub number_of : List ℕ → ℕ
number_of digits = number_on 0 digits

-- the number of which a word is the decimal, where it is below the limit
abbrev pub number_below : ℕ → List ℕ → Option ℕ
number_below limit word = cond (bytes_eq word (decimal (number_of word)) && ltb (number_of word) limit) (Some (number_of word)) None

-- the number of 64 bits, and of 32
abbrev pub number_in : List ℕ → Option ℕ
number_in word = number_below (2 ^ 64) word

abbrev pub small_number_in : List ℕ → Option ℕ
small_number_in word = number_below (2 ^ 32) word
