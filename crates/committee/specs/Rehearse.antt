-- The meaning of `rehearse N T PERIODS NUMBER`.
use Rattle.std.specs.Prelude.{◌≡◌, ℕ, ◌+◌, List, [], string_bytes, Option, Result, Ok, Err}
use Rattle.keyroom.specs.declared.plan.Plan.{Plan}
use Rattle.keyroom.specs.declared.status.Status.{Status}
use Rattle.keyroom.specs.Causes.{Cause, Done, Shelf, Crew, Sink, Memory, cause_of}
use Rattle.keyroom.specs.Answer.{IsTold, IsPartTold}
use Rattle.keyroom.specs.Outcome.{Outcome, done}
use Rattle.keyroom.specs.Words.{Command, Rehearse}
use Rattle.commands.specs.Causes.{IsOfCrew}
use Rattle.rehearsal_laws.specs.Rehearsal.{scenes_to}
use Rattle.rehearsal.specs.Lived.{seats_in}
use Rattle.playbill.specs.Printed.{IsTextOf}

-- its text is put out; nothing is changed, and no seed is taken
abbrev pub MeansRehearse : ℕ → ℕ → ℕ → ℕ → Outcome → Type 0
MeansRehearse members bound periods number outcome =
    (text : List ℕ) × IsTextOf members bound periods number text × (outcome ≡ done [] text)

-- it comes to its phases, and takes no seed for them
abbrev pub RehearseTakes : ℕ → Type 0
RehearseTakes count = count ≡ 0

-- how many seats all its phases have
abbrev pub rehearsal_seats : ℕ → ℕ → ℕ → ℕ → ℕ
rehearsal_seats members bound periods number = seats_in (scenes_to members bound number (periods + 1))

-- How it ends, by the cause of the answer: Done has put out such a text, and a fault of the sink a part of one, from its
-- front; a fault of the crew and want of memory have put out nothing. So has one of the shelf, of which nothing is asked: it
-- can come only where the shelf's count of faults stands at its last value. There is no other end.
abbrev pub EndsInSome : (List ℕ → Type 0) → Option (List ℕ) → Option (List ℕ) → Cause → Type 0
EndsInSome is told tells Done = (text : List ℕ) × is text × IsTold text told tells
EndsInSome is told tells Sink = (text : List ℕ) × is text × IsPartTold text told tells
EndsInSome is told tells Shelf = tells ≡ told
EndsInSome is told tells Crew = tells ≡ told
EndsInSome is told tells Memory = tells ≡ told
EndsInSome is told tells cause = ⊥

-- A plan of it has no changes and such a text; only a thread that can't be had and want of memory leave none.
abbrev pub LeavesRehearsed : ℕ → ℕ → ℕ → ℕ → Result Plan Status → Type 0
LeavesRehearsed members bound periods number (Ok plan) = (plan.changes.items ≡ []) × IsTextOf members bound periods number (string_bytes plan.text)
LeavesRehearsed members bound periods number (Err status) = IsOfCrew (cause_of status)

-- Planning a rehearsal leaves the shelf and the entropy as they were, and leaves that.
abbrev pub PlansRehearsal : {H E : Type 0} → Command → H → H → E → E → Result Plan Status → Type 0
PlansRehearsal (Rehearse members bound periods number) shelf later entropy after result =
    (later ≡ shelf) × (after ≡ entropy) × LeavesRehearsed members bound periods number result
PlansRehearsal command shelf later entropy after result = Unit {0}
