-- What a call of the program leaves: all of an outcome, or a part of it where the outside or memory failed.
use Rattle.std.specs.Prelude.{◌≡◌, ◌≤◌, ℕ, List, ◌++◌, length, take, Option, Result, Ok, Err}
use Rattle.std.specs.Option.{option_map}
use Rattle.shelf.specs.Held.{Held, Change, after}
use Rattle.keyroom.specs.declared.plan.Plan.{Plan}
use Rattle.keyroom.specs.declared.status.Status.{Status}
use Rattle.keyroom.specs.Causes.{Cause, cause_of}
use Rattle.keyroom.specs.Causes as cause
use Rattle.keyroom.specs.Outcome.{Outcome, refused}
use Rattle.keyroom.specs.Changes.{outcome_of}

-- what a plan that takes no seeds, or a refusal to make one, must be
abbrev pub Plans : (Outcome → Type 0) → Result Plan Status → Type 0
Plans means (Ok plan) = means (outcome_of 0 plan)
Plans means (Err status) = cause_of status ≡ cause.Refusal → means (refused status)

-- all changes were made
abbrev pub IsChanged : List Change → Option Held → Option Held → Type 0
IsChanged changes old new = new ≡ option_map (after changes) old

-- a part of the changes was made, from the front
abbrev pub IsPartWay : List Change → Option Held → Option Held → Type 0
IsPartWay changes old new = (n : ℕ) × (n ≤ length changes) × (new ≡ option_map (after (take n changes)) old)

-- the whole text went out
abbrev pub IsTold : List ℕ → Option (List ℕ) → Option (List ℕ) → Type 0
IsTold text old new = new ≡ option_map (λ told. told ++ text) old

-- a part of the text went out, from the front
abbrev pub IsPartTold : List ℕ → Option (List ℕ) → Option (List ℕ) → Type 0
IsPartTold text old new = (n : ℕ) × (n ≤ length text) × (new ≡ option_map (λ told. told ++ take n text) old)

-- how far changes and a text were carried out, by the cause of the answer: the shelf before and after, and the sink before
-- and after
abbrev pub Carries : List Change → List ℕ → Option Held → Option Held → Option (List ℕ) → Option (List ℕ) → Cause → Type 0
Carries changes text old new told tells cause.Done = IsChanged changes old new × IsTold text told tells
Carries changes text old new told tells cause.Sink = IsChanged changes old new × IsPartTold text told tells
Carries changes text old new told tells cause.Shelf = IsPartWay changes old new × (tells ≡ told)
Carries changes text old new told tells cause.Memory = IsPartWay changes old new × (tells ≡ told)
Carries changes text old new told tells cause = ⊥
