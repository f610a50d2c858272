-- What the names of files tell.
use Rattle.std.specs.Prelude.{ℕ, List, Bool, ◌||◌, ◌&&◌, ◌==◌, nat_le, length, take, drop, eqb, codes}
use Rattle.std.specs.List.{list_all, starts_with, ends_with}

-- it is the name of a share file
abbrev pub is_share : List ℕ → Bool
is_share name = ends_with eqb name (codes ".share")

-- it is the name of a share file or of a now file
abbrev pub is_key_file : List ℕ → Bool
is_key_file name = is_share name || ends_with eqb name (codes ".now")

-- a digit of the marks that second files are named by
abbrev pub is_mark_digit : ℕ → Bool
is_mark_digit byte = (nat_le 48 byte && nat_le byte 57) || (nat_le 97 byte && nat_le byte 102)

-- it is the name of the second file of a put: a dot, a mark of 32 digits, and the ending
unfoldable pub is_second : List ℕ → Bool
is_second name = (length name == 40) && starts_with eqb name (codes ".") && ends_with eqb name (codes "..share") && list_all is_mark_digit (take 32 (drop 1 name))
