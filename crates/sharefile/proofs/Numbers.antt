-- The words of `byteorder` and those of std for a number's bytes are the same.
use Rattle.std.proofs.Common.{◌≡◌, ℕ, ◌∙◌, List, ap, sym, arith}
use Rattle.std.specs.Int.{w32, w64, from_be_bytes}
use Rattle.byteorder.specs.Endian.{big_number}
use Rattle.algebra61.specs.Field.{Fp, fe, fe-num}

-- the number in four bytes
pub big_number_4 : (xs : List ℕ) → big_number 4 xs ≡ from_be_bytes w32 xs
big_number_4 xs = omega arith

-- the number in eight bytes
pub big_number_8 : (xs : List ℕ) → big_number 8 xs ≡ from_be_bytes w64 xs
big_number_8 xs = omega arith

-- an element is the one of its number
pub fe_is : (x : Fp) (n : ℕ) → x.num ≡ n → x ≡ fe n
fe_is x n e = sym (fe-num x) ∙ ap fe e
