-- What a command comes to: a status, changes of the shelf in their order, a text, and how many seeds it takes.
use Rattle.std.specs.Prelude.{◌≡◌, ℕ, List, [], ◌++◌, Option, Some, None, Result, Ok, Err}
use Rattle.shelf.specs.Held.{Change}
use Rattle.keyroom.specs.declared.status.Status.{Status}
use Rattle.keyroom.specs.declared.status.Status.TheVariants.{Done}
use Rattle.keyroom.specs.Causes.{cause_of}
use Rattle.keyroom.specs.Causes as cause

pub record Outcome : Type 0 where
  pub status : Status
  pub changes : List Change
  pub text : List ℕ
  pub taken : ℕ

-- a refusal changes nothing, prints nothing and takes no seed
abbrev pub refused : Status → Outcome
refused status = record { status = status; changes = []; text = []; taken = 0 }

-- the work is done, with so many seeds
abbrev pub done_with : ℕ → List Change → List ℕ → Outcome
done_with taken changes text = record { status = Done; changes = changes; text = text; taken = taken }

-- the work is done without a seed
abbrev pub done : List Change → List ℕ → Outcome
done changes text = done_with 0 changes text

-- A step gives a value or refuses. What follows is told of its value; a refusal is the end.
abbrev pub Then : {A B : Type 0} → Result A Status → (A → Result B Status → Type 0) → Result B Status → Type 0
Then (Ok x) next end = next x end
Then (Err status) next end = end ≡ Err status

-- the same where the end is the outcome of a command
abbrev pub ThenDo : {A : Type 0} → Result A Status → (A → Outcome → Type 0) → Outcome → Type 0
ThenDo (Ok x) next outcome = next x outcome
ThenDo (Err status) next outcome = outcome ≡ refused status

-- these seeds were the first of those to come, where they are told
abbrev pub AreFirst : List (List ℕ) → Option (List (List ℕ)) → Type 0
AreFirst seeds None = Unit {0}
AreFirst seeds (Some coming) = (rest : List (List ℕ)) × (coming ≡ seeds ++ rest)

-- What a function returned, as the plain value that it is seen as, is among what is meant. The outside's faults and want
-- of memory may come at any step.
abbrev pub AnswersAs : {X Y : Type 0} → (X → Y) → (Result Y Status → Type 0) → Result X Status → Type 0
AnswersAs view means (Ok x) = means (Ok (view x))
AnswersAs view means (Err status) = cause_of status ≡ cause.Refusal → means (Err status)

-- the same where it is seen as it is
abbrev pub AnswersWith : {X : Type 0} → (Result X Status → Type 0) → Result X Status → Type 0
AnswersWith means result = AnswersAs (λ x. x) means result

-- what a function returned is what the step gives
abbrev pub AnswersStep : {X Y : Type 0} → (X → Y) → Result X Status → Result Y Status → Type 0
AnswersStep view result step = AnswersAs view (λ end. step ≡ end) result
