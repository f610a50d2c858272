-- A law of what is printed.
use Rattle.std.specs.Prelude.{◌≡◌, ℕ, true, List}
use Rattle.sizes.specs.Committees.{is_bound, is_size}
use Rattle.playbill.specs.Printed.{IsTextOf}

-- the words of a rehearsal tell its text
abbrev pub OneText : Type 0
OneText =
    (members bound periods number : ℕ) (text again : List ℕ) → is_size members ≡ true → is_bound members bound ≡ true →
    IsTextOf members bound periods number text → IsTextOf members bound periods number again → again ≡ text
