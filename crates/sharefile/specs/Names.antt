-- Key names, and how they stand in a file.
use Rattle.std.specs.Prelude.{ℕ, Bool, ◌&&◌, ◌||◌, nat_le, ◌==◌, List, ◌++◌, length, take, replicate, ◌-◌, unwrap_or, position}
use Rattle.std.specs.List.{list_all}
use Rattle.std.specs.Str.{bytes_eq}

-- a to z, 0 to 9 and _
abbrev pub is_name_byte : ℕ → Bool
is_name_byte b = (nat_le 97 b && nat_le b 122) || (nat_le 48 b && nat_le b 57) || (b == 95)

-- 1 to 32 of a to z, 0 to 9 and _
abbrev pub is_key_name : List ℕ → Bool
is_key_name text = nat_le 1 (length text) && nat_le (length text) 32 && list_all is_name_byte text

-- a name as it stands in a file: the text, and zeros up to 32 bytes
abbrev pub padded : List ℕ → List ℕ
padded text = text ++ replicate (32 - length text) 0

-- the text in front of the first zero
abbrev pub text_in : List ℕ → List ℕ
text_in bytes = take (unwrap_or (position (λ b. b == 0) bytes) (length bytes)) bytes

-- these bytes are those of a name in a file
abbrev pub is_padded_name : List ℕ → Bool
is_padded_name bytes = is_key_name (text_in bytes) && bytes_eq bytes (padded (text_in bytes))
