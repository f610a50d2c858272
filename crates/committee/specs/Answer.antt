-- What the top call leaves: all of what the words mean, or a part of it where the outside or memory failed.
use Rattle.std.specs.Prelude.{◌≡◌, ◌⊎◌, ℕ, List, Option}
use Rattle.shelf.specs.Held.{Held}
use Rattle.keyroom.specs.declared.status.Status.{Status}
use Rattle.keyroom.specs.declared.status.Status.TheVariants as answer
use Rattle.keyroom.specs.Causes.{Cause, Done, Refusal, Shelf, Entropy, Crew, Sink, Memory, cause_of}
use Rattle.keyroom.specs.Outcome.{Outcome}
use Rattle.keyroom.specs.Answer.{IsChanged, IsTold, Carries}
use Rattle.commands.specs.Late.{refused_after}
use Rattle.commands.specs.Planning.{Took, TookAsked, TookAll}

-- the outside: what the shelf holds, the seeds to come, and what the sink was given, where they are told
pub record World : Type 0 where
  pub held : Option Held
  pub coming : Option (List (List ℕ))
  pub told : Option (List ℕ)

-- an outcome that is Done was carried out, as far as the cause of the answer says
pub record CarriedOut (means : Outcome → Type 0) (before after : World) (cause : Cause) (outcome : Outcome) : Type 0 where
  pub meant : means outcome
  pub planned : outcome.status ≡ answer.Done
  pub carried : Carries outcome.changes outcome.text before.held after.held before.told after.told cause
  pub took : Took outcome.taken before.coming after.coming

-- the shelf holds what it held and the sink was given nothing
pub record IsUntouched (before after : World) : Type 0 where
  pub held : after.held ≡ before.held
  pub told : after.told ≡ before.told

-- What was done of what the words mean, by the cause of the answer, where `asks` says of which numbers of seeds they come
-- to the step that takes them. A refusal does nothing but take the seeds that are meant. Done and each fault of the
-- outside but those of the entropy and the crew carry out an outcome that is Done, as far as `Carries` says. A fault of the
-- shelf and want of memory may also come before anything is done. A fault of the entropy comes only then, and only where
-- seeds are asked for, and one of the crew only when all of these were taken.
-- Before anything is done at most the seeds that are asked for were taken, from the front.
abbrev pub DoesBy : (Outcome → Type 0) → (ℕ → Type 0) → World → World → Status → Cause → Type 0
DoesBy means asks before after status Done = (o : Outcome) × CarriedOut means before after Done o
DoesBy means asks before after status Refusal = (taken : ℕ) × means (refused_after taken status) × IsUntouched before after × Took taken before.coming after.coming
DoesBy means asks before after status Shelf = (after ≡ before) ⊎ ((o : Outcome) × CarriedOut means before after Shelf o)
DoesBy means asks before after status Entropy = IsUntouched before after × TookAsked asks before.coming after.coming
DoesBy means asks before after status Crew = IsUntouched before after × TookAll asks before.coming after.coming
DoesBy means asks before after status Sink = (o : Outcome) × CarriedOut means before after Sink o
DoesBy means asks before after status Memory =
    (IsUntouched before after × ((after.coming ≡ before.coming) ⊎ TookAsked asks before.coming after.coming))
    ⊎ ((o : Outcome) × CarriedOut means before after Memory o)

abbrev pub Does : (Outcome → Type 0) → (ℕ → Type 0) → World → World → Status → Type 0
Does means asks before after status = DoesBy means asks before after status (cause_of status)

-- an outcome was carried out whole, and is what is answered
pub record IsWhole (means : Outcome → Type 0) (before after : World) (status : Status) (outcome : Outcome) : Type 0 where
  pub meant : means outcome
  pub answered : outcome.status ≡ status
  pub held : IsChanged outcome.changes before.held after.held
  pub told : IsTold outcome.text before.told after.told
  pub took : Took outcome.taken before.coming after.coming

-- what the words mean was done whole, unless memory ran out
abbrev pub Completes : (Outcome → Type 0) → World → World → Status → Type 0
Completes means before after status = (cause_of status ≡ Memory) ⊎ ((outcome : Outcome) × IsWhole means before after status outcome)

-- Only Done and a fault of the sink may have written something, and they have only appended.
abbrev pub Writes : Option (List ℕ) → Option (List ℕ) → Cause → Type 0
Writes told tells Done = (text : List ℕ) × IsTold text told tells
Writes told tells Sink = (text : List ℕ) × IsTold text told tells
Writes told tells cause = tells ≡ told

-- the causes with which all changes were made
abbrev pub MadeAll : Cause → Type 0
MadeAll Done = Unit {0}
MadeAll Sink = Unit {0}
MadeAll cause = ⊥
