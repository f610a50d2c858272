-- Why an answer came: what stands after an answer is said by its cause.
use Rattle.std.specs.Prelude.{◌≡◌, ◌≢◌, ℕ}
use Rattle.counters.specs.Counts.{Rose}
use Rattle.keyroom.specs.declared.status.Status.{Status}
use Rattle.keyroom.specs.declared.status.Status.TheVariants as status
use Rattle.keyroom.specs.declared.status.Status.TheVariants.{Usage}

-- All was done; the words or what the shelf holds refuse the work; an object of the outside failed; or memory ran out.
pub data Cause : Type 0 where
  Done : Cause
  Refusal : Cause
  Shelf : Cause
  Entropy : Cause
  Crew : Cause
  Sink : Cause
  Memory : Cause

-- a status has one cause
abbrev pub cause_of : Status → Cause
cause_of status.Done = Done
cause_of status.Usage = Refusal
cause_of (status.NoSuch what) = Refusal
cause_of status.Exists = Refusal
cause_of (status.TooFewSound sound needed) = Refusal
cause_of (status.NoKey lane) = Refusal
cause_of (status.NoWord lane syndrome) = Refusal
cause_of (status.BadBox fault) = Refusal
cause_of (status.Full number) = Refusal
cause_of (status.BadDrill fault) = Refusal
cause_of (status.BadNow fault) = Refusal
cause_of (status.TooLong length) = Refusal
cause_of status.ShelfFault = Shelf
cause_of status.EntropyFault = Entropy
cause_of status.NoThread = Crew
cause_of status.SinkFault = Sink
cause_of status.OutOfMemory = Memory

-- a call that the shelf may fail, or want of memory
abbrev pub IsOfShelf : Cause → Type 0
IsOfShelf Shelf = Unit {0}
IsOfShelf Memory = Unit {0}
IsOfShelf cause = ⊥

-- the same, or a refusal
abbrev pub IsOfPlan : Cause → Type 0
IsOfPlan Refusal = Unit {0}
IsOfPlan Shelf = Unit {0}
IsOfPlan Memory = Unit {0}
IsOfPlan cause = ⊥

-- what a step that only asks the shelf may refuse with: a fault only where the shelf's count rose
pub record IsFromShelf (before now : ℕ) (status : Status) : Type 0 where
  pub shelf : cause_of status ≡ Shelf → Rose before now
  pub by : IsOfShelf (cause_of status)

-- What a command that takes no seeds may refuse with before it changes anything: a fault only where the shelf's count
-- rose, and none of the answers that belong to other parts.
pub record IsFromPlan (before now : ℕ) (status : Status) : Type 0 where
  pub shelf : cause_of status ≡ Shelf → Rose before now
  pub by : IsOfPlan (cause_of status)
  pub read : status ≢ Usage
