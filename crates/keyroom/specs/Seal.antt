-- Sealing a document under a key.
use Rattle.std.specs.Prelude.{◌≡◌, ◌<◌, ℕ, ◌+◌, List, [], ◌∷◌, length, get_or, Result, Ok}
use Rattle.algebra61.specs.Field.{Fp}
use Rattle.shelf.specs.Held.{Change, Put}
use Rattle.sharefile.specs.Files.{Now, now_bytes}
use Rattle.docvault.specs.Box.{IsBox}
use Rattle.keyroom.specs.declared.status.Status.{Status}
use Rattle.keyroom.specs.Names.{now_name}
use Rattle.keyroom.specs.Steps.{Asked}
use Rattle.keyroom.specs.Work.{Work}

-- numbers that may stand in a file
abbrev pub AreBytes : List ℕ → Type 0
AreBytes bytes = (place : ℕ) → get_or bytes place 0 < 256

-- the now file with the next number raised
abbrev pub raised : Now → Now
raised now = record now { next_number = now.next_number + 1 }

-- the now file is put before the box, so that no number is ever taken twice
abbrev pub seal_changes : List ℕ → List ℕ → Now → List ℕ → List Change
seal_changes name target now box = Put (now_name name) (now_bytes (raised now)) ∷ Put target box ∷ []

-- the work of sealing a document into this box
abbrev pub seal_work : List ℕ → List ℕ → Asked → List ℕ → Work
seal_work name target asked box =
    record { number = asked.now.next_number; bytes = length asked.bytes; changes = seal_changes name target asked.now box }

-- under the key's lanes: the box is that of the document under the key and the name, with the next number
abbrev pub SealsUnder : List ℕ → List ℕ → Asked → List Fp → Result Work Status → Type 0
SealsUnder name target asked lanes end =
    (box : List ℕ) × IsBox lanes name asked.now.next_number asked.bytes box × (end ≡ Ok (seal_work name target asked box))
