-- Which command a list of words is. A command has exactly one spelling.
use Rattle.std.specs.Prelude.{◌≡◌, ◌≤◌, ◌<◌, ◌^◌, decimal, ℕ, eqb, nat_le, List, [], ◌∷◌, map, length, String, string_bytes, codes, Bool, not, ◌&&◌, ◌||◌, ◌==◌, Option, Some, None, IfSome, IsTrue}
use Rattle.std.specs.List.{list_all, starts_with, ends_with}
use Rattle.sharefile.specs.Names.{is_key_name}
use Rattle.sizes.specs.Committees.{is_size, is_bound}

-- a command, by its words
pub data Command : Type 0 where
  Create : List ℕ → ℕ → ℕ → Option (List ℕ) → Command
  Refresh : List ℕ → Option (List ℕ) → Command
  Move : List ℕ → ℕ → ℕ → Option (List ℕ) → Command
  Recover : List ℕ → Command
  Check : List ℕ → Command
  Seal : List ℕ → List ℕ → List ℕ → Command
  Open : List ℕ → List ℕ → List ℕ → Command
  Rehearse : ℕ → ℕ → ℕ → ℕ → Command

-- the words' bytes
module _ {Y : Type 0} where
  abbrev pub texts : List (String Y) → List (List ℕ)
  texts words = map string_bytes words

-- a word that may be left out
abbrev pub optional : Option (List ℕ) → List (List ℕ)
optional None = []
optional (Some word) = word ∷ []

-- the words behind the first of a command that makes a committee: the key's name, the committee's size and bound, and a drill
abbrev pub making_words : List ℕ → ℕ → ℕ → Option (List ℕ) → List (List ℕ)
making_words name n t drill = name ∷ decimal n ∷ decimal t ∷ optional drill

abbrev pub spelling : Command → List (List ℕ)
spelling (Create name n t drill) = codes "create" ∷ making_words name n t drill
spelling (Refresh name drill) = codes "refresh" ∷ name ∷ optional drill
spelling (Move name n t drill) = codes "move" ∷ making_words name n t drill
spelling (Recover name) = codes "recover" ∷ name ∷ []
spelling (Check name) = codes "check" ∷ name ∷ []
spelling (Seal name doc target) = codes "seal" ∷ name ∷ doc ∷ target ∷ []
spelling (Open name source target) = codes "open" ∷ name ∷ source ∷ target ∷ []
spelling (Rehearse members bound periods number) =
    codes "rehearse" ∷ decimal members ∷ decimal bound ∷ decimal periods ∷ decimal number ∷ []

-- it doesn't begin with `-` and holds no zero byte
abbrev pub is_plain_text : List ℕ → Bool
is_plain_text text = not (starts_with eqb text (codes "-")) && list_all (λ b. not (b == 0)) text

-- it ends like the name of a now file or of a share file
abbrev pub ends_like_a_key_file : List ℕ → Bool
ends_like_a_key_file text = ends_with eqb text (codes ".now") || ends_with eqb text (codes ".share")

-- a word that may name a document, a box or a drill: 1 to 255 bytes of plain text that don't end like a key's file
unfoldable pub is_file_name : List ℕ → Bool
is_file_name text = nat_le 1 (length text) && nat_le (length text) 255 && is_plain_text text && not (ends_like_a_key_file text)

-- each word of a command that makes a committee is in its range
abbrev pub MakesInRange : List ℕ → ℕ → ℕ → Option (List ℕ) → Type 0
MakesInRange name n t drill = IsTrue (is_key_name name) × IsTrue (is_size n) × IsTrue (is_bound n t) × IfSome drill (λ file. IsTrue (is_file_name file))

-- a rehearsal has 1 to 64 periods after the first, and its number has 32 bits
abbrev pub RehearsesInRange : ℕ → ℕ → ℕ → ℕ → Type 0
RehearsesInRange members bound periods number =
    IsTrue (is_size members) × IsTrue (is_bound members bound) × (1 ≤ periods) × (periods ≤ 64) × (number < 2 ^ 32)

-- each word is in its range
abbrev pub IsInRange : Command → Type 0
IsInRange (Create name n t drill) = MakesInRange name n t drill
IsInRange (Refresh name drill) = IsTrue (is_key_name name) × IfSome drill (λ file. IsTrue (is_file_name file))
IsInRange (Move name n t drill) = MakesInRange name n t drill
IsInRange (Recover name) = IsTrue (is_key_name name)
IsInRange (Check name) = IsTrue (is_key_name name)
IsInRange (Seal name doc target) = IsTrue (is_key_name name) × IsTrue (is_file_name doc) × IsTrue (is_file_name target)
IsInRange (Open name source target) = IsTrue (is_key_name name) × IsTrue (is_file_name source) × IsTrue (is_file_name target)
IsInRange (Rehearse members bound periods number) = RehearsesInRange members bound periods number

-- the words are the command's spelling
pub record ReadsAs (words : List (List ℕ)) (command : Command) : Type 0 where
  pub words_are : words ≡ spelling command
  pub in_range : IsInRange command

-- no command is spelled so
abbrev pub IsUsage : List (List ℕ) → Type 0
IsUsage words = (command : Command) → ReadsAs words command → ⊥

-- words behind the first are those of such a command
pub record ReadsAsMaking (words : List (List ℕ)) (name : List ℕ) (n t : ℕ) (drill : Option (List ℕ)) : Type 0 where
  pub words_are : words ≡ making_words name n t drill
  pub in_range : MakesInRange name n t drill

-- they are those of none
abbrev pub MakesNothing : List (List ℕ) → Type 0
MakesNothing words = (name : List ℕ) (n t : ℕ) (drill : Option (List ℕ)) → ReadsAsMaking words name n t drill → ⊥
