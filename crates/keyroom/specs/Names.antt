-- The names of a key's files on the shelf.
use Rattle.std.specs.Prelude.{ℕ, List, ◌++◌, codes, decimal}

-- `NAME.now`
abbrev pub now_name : List ℕ → List ℕ
now_name name = name ++ codes ".now"

-- `NAME.PERIOD.INDEX.share`
abbrev pub share_name : List ℕ → ℕ → ℕ → List ℕ
share_name name period index = name ++ (codes "." ++ (decimal period ++ (codes "." ++ (decimal index ++ codes ".share"))))
