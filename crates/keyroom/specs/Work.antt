-- What sealing or opening a document comes to before its changes are made, and what is left after them.
use Rattle.std.specs.Prelude.{◌≡◌, ◌⊎◌, ℕ, List, Option, Result, Ok, Err}
use Rattle.algebra61.specs.Polynomial.{Polynomial}
use Rattle.shelf.specs.Held.{Held, Change}
use Rattle.sharefile.specs.Files.{Now}
use Rattle.keyroom.specs.declared.status.Status.{Status}
use Rattle.keyroom.specs.declared.steps.Found.{Found}
use Rattle.keyroom.specs.declared.work.Sealed.{Sealed}
use Rattle.keyroom.specs.declared.work.Prepared.{Prepared}
use Rattle.keyroom.specs.declared.work.Inputs.{Inputs}
use Rattle.keyroom.specs.declared.recover.Recovered.{Recovered}
use Rattle.keyroom.specs.Causes.{Cause, cause_of}
use Rattle.keyroom.specs.Causes as cause
use Rattle.keyroom.specs.Changes.{changes_of}
use Rattle.keyroom.specs.Steps.{Asked}
use Rattle.keyroom.specs.Recover.{recovered_by}
use Rattle.keyroom.specs.Answer.{IsChanged, IsPartWay}

-- a document's number and length, and the changes of the shelf
pub record Work : Type 0 where
  pub number : ℕ
  pub bytes : ℕ
  pub changes : List Change

-- what the code has prepared
abbrev pub work_of : Prepared → Work
work_of work = record { number = work.sealed.number; bytes = work.sealed.bytes; changes = changes_of work.changes.items }

-- the same of what was asked for
abbrev pub asked_in : Inputs → Asked
asked_in asked = record { now = asked.file; bytes = asked.bytes.items }

-- what is answered of a work that was done
abbrev pub sealed_of : Work → Sealed
sealed_of work = record { number = work.number; bytes = work.bytes }

-- how the key comes of a now file and the share files
abbrev pub Keys : Type 1
Keys = Now → List Found → Result Recovered Status → Type 0

-- it is the values at 0 of these polynomials
abbrev pub KeyIsOf : List Polynomial → Keys
KeyIsOf polys now files key = key ≡ Ok (recovered_by now files polys)

-- What a call that seals or opens leaves, by the cause of its refusal: a refusal, which is the one that is meant, changes
-- nothing; after a fault of the shelf and want of memory a part of the changes was made, from the front.
abbrev pub Stops : (Result Work Status → Type 0) → Option Held → Option Held → Status → Cause → Type 0
Stops means old new status cause.Refusal = means (Err status) × (new ≡ old)
Stops means old new status cause.Shelf = (new ≡ old) ⊎ ((work : Work) × means (Ok work) × IsPartWay work.changes old new)
Stops means old new status cause.Memory = (new ≡ old) ⊎ ((work : Work) × means (Ok work) × IsPartWay work.changes old new)
Stops means old new status cause = ⊥

-- what it leaves, all changes of the work that is meant among it
abbrev pub Works : (Result Work Status → Type 0) → Option Held → Option Held → Result Sealed Status → Type 0
Works means old new (Ok sealed) = (work : Work) × means (Ok work) × (sealed ≡ sealed_of work) × IsChanged work.changes old new
Works means old new (Err status) = Stops means old new status (cause_of status)

-- what making the changes of a work leaves
abbrev pub Finishes : Work → Option Held → Option Held → Result Sealed Status → Type 0
Finishes work old new (Ok sealed) = (sealed ≡ sealed_of work) × IsChanged work.changes old new
Finishes work old new (Err status) = IsPartWay work.changes old new
