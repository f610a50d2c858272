-- How often the outside has failed, and what a command may refuse with before it changes anything.
use Rattle.std.specs.Prelude.{◌≡◌, ◌≢◌, ◌≤◌, ℕ}
use Rattle.counters.specs.Counts.{Rose}
use Rattle.keyroom.specs.declared.status.Status.{Status}
use Rattle.keyroom.specs.declared.status.Status.TheVariants.{Usage}
use Rattle.keyroom.specs.Causes.{Cause, Done, Refusal, Shelf, Entropy, Crew, Sink, Memory, cause_of}

-- how often each object has failed
pub record Counts : Type 0 where
  pub shelf : ℕ
  pub entropy : ℕ
  pub crew : ℕ
  pub sink : ℕ

-- the same where no sink is at hand
abbrev pub before_text : ℕ → ℕ → ℕ → Counts
before_text shelf entropy crew = record { shelf = shelf; entropy = entropy; crew = crew; sink = 0 }

-- no count fell, and a fault was answered only where its count rose
pub record IsCounted (before now : Counts) (cause : Cause) : Type 0 where
  pub shelf_later : before.shelf ≤ now.shelf
  pub entropy_later : before.entropy ≤ now.entropy
  pub crew_later : before.crew ≤ now.crew
  pub sink_later : before.sink ≤ now.sink
  pub shelf : cause ≡ Shelf → Rose before.shelf now.shelf
  pub entropy : cause ≡ Entropy → Rose before.entropy now.entropy
  pub crew : cause ≡ Crew → Rose before.crew now.crew
  pub sink : cause ≡ Sink → Rose before.sink now.sink

-- a refusal to make a plan, for what the words and the files say, for a fault of the outside, or for want of memory
pub record IsFromCommand (before now : Counts) (status : Status) : Type 0 where
  pub counted : IsCounted before now (cause_of status)
  pub undone : cause_of status ≢ Done
  pub read : status ≢ Usage

-- a call that the entropy may fail, or want of memory
abbrev pub IsOfEntropy : Cause → Type 0
IsOfEntropy Entropy = Unit {0}
IsOfEntropy Memory = Unit {0}
IsOfEntropy cause = ⊥

-- what a step that only takes seeds may refuse with
pub record IsFromEntropy (before now : ℕ) (status : Status) : Type 0 where
  pub entropy : cause_of status ≡ Entropy → Rose before now
  pub by : IsOfEntropy (cause_of status)

-- a call that the crew may fail, or want of memory
abbrev pub IsOfCrew : Cause → Type 0
IsOfCrew Crew = Unit {0}
IsOfCrew Memory = Unit {0}
IsOfCrew cause = ⊥

-- what a phase may refuse with
pub record IsFromCrew (before now : ℕ) (status : Status) : Type 0 where
  pub crew : cause_of status ≡ Crew → Rose before now
  pub by : IsOfCrew (cause_of status)

-- work on what was found and drawn, which may refuse
abbrev pub IsOfWork : Cause → Type 0
IsOfWork Refusal = Unit {0}
IsOfWork Memory = Unit {0}
IsOfWork cause = ⊥

-- what a step may refuse with that only works on these
pub record IsFromWork (status : Status) : Type 0 where
  pub by : IsOfWork (cause_of status)
  pub read : status ≢ Usage

-- the same with a phase among it
abbrev pub IsOfPhase : Cause → Type 0
IsOfPhase Refusal = Unit {0}
IsOfPhase Crew = Unit {0}
IsOfPhase Memory = Unit {0}
IsOfPhase cause = ⊥

pub record IsFromPhase (before now : ℕ) (status : Status) : Type 0 where
  pub crew : cause_of status ≡ Crew → Rose before now
  pub by : IsOfPhase (cause_of status)
  pub read : status ≢ Usage

-- the same behind a step that takes seeds
abbrev pub IsOfSeeds : Cause → Type 0
IsOfSeeds Refusal = Unit {0}
IsOfSeeds Entropy = Unit {0}
IsOfSeeds Crew = Unit {0}
IsOfSeeds Memory = Unit {0}
IsOfSeeds cause = ⊥

pub record IsFromSeeds (drawing drawn working worked : ℕ) (status : Status) : Type 0 where
  pub entropy : cause_of status ≡ Entropy → Rose drawing drawn
  pub crew : cause_of status ≡ Crew → Rose working worked
  pub by : IsOfSeeds (cause_of status)
  pub read : status ≢ Usage
