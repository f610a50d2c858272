-- Opening a box under a key.
use Rattle.std.specs.Prelude.{◌≡◌, ◌⊎◌, ℕ, List, [], ◌∷◌, length, Some, None, Result, Ok, Err}
use Rattle.std.specs.declared.vec.Vec.{Vec}
use Rattle.algebra61.specs.Field.{Fp}
use Rattle.shelf.specs.Held.{Put}
use Rattle.docvault.specs.declared.fault.BoxFault.{BoxFault}
use Rattle.docvault.specs.Box.{IsBox}
use Rattle.docvault.specs.Opening.{box_fault}
use Rattle.keyroom.specs.declared.status.Status.{Status}
use Rattle.keyroom.specs.declared.status.Status.TheVariants.{BadBox, OutOfMemory}
use Rattle.keyroom.specs.Steps.{Asked}
use Rattle.keyroom.specs.Work.{Work}

-- no fault holds of the bytes, and they are the box of this number and document
pub record IsOpened (key : List Fp) (name : List ℕ) (number : ℕ) (document bytes : List ℕ) : Type 0 where
  pub sound : box_fault key name bytes ≡ None
  pub is_box : IsBox key name number document bytes

-- what a reading of the bytes answers: a number and a document that they hold, or their first fault, unless memory ran
-- out
abbrev pub Unseals : {Z : Type 0} → List Fp → List ℕ → List ℕ → Result (ℕ × Vec ℕ Z) Status → Type 0
Unseals lanes name bytes (Ok opened) = IsOpened lanes name opened.0 opened.1.items bytes
Unseals lanes name bytes (Err status) = (status ≡ OutOfMemory) ⊎ ((fault : BoxFault) × (box_fault lanes name bytes ≡ Some fault) × (status ≡ BadBox fault))

-- the work of opening a box that holds this number and document
abbrev pub open_work : List ℕ → ℕ → List ℕ → Work
open_work target number document = record { number = number; bytes = length document; changes = Put target document ∷ [] }

-- under the key's lanes: the box holds a document, or the first fault that holds of its bytes refuses
abbrev pub OpensUnder : List ℕ → List ℕ → Asked → List Fp → Result Work Status → Type 0
OpensUnder name target asked lanes end =
    ((number : ℕ) × (document : List ℕ) × IsOpened lanes name number document asked.bytes × (end ≡ Ok (open_work target number document)))
    ⊎ ((fault : BoxFault) × (box_fault lanes name asked.bytes ≡ Some fault) × (end ≡ Err (BadBox fault)))
