-- How bytes are written in a line.
use Rattle.std.specs.Prelude.{ℕ, List, [], ◌∷◌, codes}
use Rattle.hex.specs.Hex.{encode_lower}

-- two lower-case hexadecimal digits for each byte, the high one first, and `-` for no bytes
abbrev pub digits_of : List ℕ → List ℕ
digits_of [] = codes "-"
digits_of (byte ∷ rest) = encode_lower (byte ∷ rest)
