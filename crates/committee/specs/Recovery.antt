-- What a command does where enough honest share files are there: it works under the key of the polynomials that they lie
-- on, whatever the other files are.
use Rattle.std.specs.Prelude.{◌≡◌, ◌≢◌, ℕ, List, Option}
use Rattle.algebra61.specs.Polynomial.{Polynomial}
use Rattle.shelf.specs.Held.{Held}
use Rattle.sharefile.specs.Files.{Now}
use Rattle.keyroom.specs.declared.status.Status.{Status}
use Rattle.keyroom.specs.declared.status.Status.TheVariants.{NoKey}
use Rattle.keyroom.specs.declared.document.Direction.{Direction}
use Rattle.keyroom.specs.declared.document.Direction.TheVariants.{Sealing, Opening}
use Rattle.keyroom.specs.Causes.{Cause, Done, Shelf, Sink, Memory, cause_of}
use Rattle.keyroom.specs.Words.{Command, Recover, Check, Seal, Open, ReadsAs}
use Rattle.keyroom.specs.Steps.{files_of}
use Rattle.keyroom.specs.Recover.{recovered_by}
use Rattle.keyroom.specs.Check.{checked_by}
use Rattle.keyroom.specs.Work.{KeyIsOf}
use Rattle.keyroom.specs.Document.{DocumentCommandBy}
use Rattle.keyroom.specs.Texts.{recover_text, check_text}
use Rattle.keyroom.specs.Answer.{IsTold, IsPartTold}
use Rattle.committee.specs.Answer.{World, Does}

-- How a command that prints alone ends, by the cause of the answer: Done has put out the text, and a fault of the sink a
-- part of it; a fault of the shelf and want of memory have put out nothing, and there is no other end.
abbrev pub EndsInText : List ℕ → Option (List ℕ) → Option (List ℕ) → Cause → Type 0
EndsInText text told tells Done = IsTold text told tells
EndsInText text told tells Sink = IsPartTold text told tells
EndsInText text told tells Shelf = tells ≡ told
EndsInText text told tells Memory = tells ≡ told
EndsInText text told tells cause = ⊥

-- the command that takes a document this way
abbrev pub document_command : Direction → List ℕ → List ℕ → List ℕ → Command
document_command Sealing name source target = Seal name source target
document_command Opening name source target = Open name source target

-- no seeds are asked for
abbrev pub AsksNone : ℕ → Type 0
AsksNone count = ⊥

-- With the now file, the polynomials that the honest files lie on, and what the shelf held: recovery prints the values of
-- the polynomials at 0 as the key, the check the members' states by the polynomials, and sealing and opening are done
-- under that key, ask for no seeds, and are never refused for want of a key.
pub record Honestly (words : List (List ℕ)) (name : List ℕ) (now : Now) (polys : List Polynomial) (held : Held) (before after : World) (status : Status) : Type 0 where
  pub recovers : ReadsAs words (Recover name) → EndsInText (recover_text (recovered_by now (files_of now held) polys)) before.told after.told (cause_of status)
  pub checks : ReadsAs words (Check name) → EndsInText (check_text (checked_by now (files_of now held) polys)) before.told after.told (cause_of status)
  pub works : (direction : Direction) (source target : List ℕ) → ReadsAs words (document_command direction name source target) → Does (DocumentCommandBy direction (KeyIsOf polys) name source target held) AsksNone before after status
  pub keyed : (direction : Direction) (source target : List ℕ) → ReadsAs words (document_command direction name source target) → (lane : ℕ) → status ≢ NoKey lane
