-- What making a plan leaves of the seeds to come.
use Rattle.std.specs.Prelude.{◌≡◌, ◌≤◌, ◌⊎◌, ℕ, List, length, drop, Option, Some, None, IfSome, Result, Ok, Err}
use Rattle.std.specs.Option.{option_map}
use Rattle.shelf.specs.Held.{Held}
use Rattle.keyroom.specs.declared.plan.Plan.{Plan}
use Rattle.keyroom.specs.declared.status.Status.{Status}
use Rattle.keyroom.specs.Causes.{Cause, Refusal, Shelf, Entropy, Crew, Memory, cause_of}
use Rattle.keyroom.specs.Outcome.{Outcome}
use Rattle.keyroom.specs.Changes.{outcome_of}
use Rattle.commands.specs.Late.{refused_after}

-- it is meant under some masks of the rounds of its phase
abbrev pub UnderSome : (List ℕ → Outcome → Type 0) → Outcome → Type 0
UnderSome means outcome = (masks : List ℕ) × means masks outcome

-- so many seeds were taken, from the front, and no others
pub record Took (taken : ℕ) (coming comes : Option (List (List ℕ))) : Type 0 where
  pub there : IfSome coming (λ seeds. taken ≤ length seeds)
  pub gone : comes ≡ option_map (drop taken) coming

-- at most so many
abbrev pub TookUpTo : ℕ → Option (List (List ℕ)) → Option (List (List ℕ)) → Type 0
TookUpTo count coming comes = (taken : ℕ) × (taken ≤ count) × Took taken coming comes

-- at most as many as are asked for, where `asks` says of which numbers that is so
abbrev pub TookAsked : (ℕ → Type 0) → Option (List (List ℕ)) → Option (List (List ℕ)) → Type 0
TookAsked asks coming comes = (count : ℕ) × asks count × TookUpTo count coming comes

-- exactly so many
abbrev pub TookAll : (ℕ → Type 0) → Option (List (List ℕ)) → Option (List (List ℕ)) → Type 0
TookAll asks coming comes = (count : ℕ) × asks count × Took count coming comes

-- What a refusal to make a plan leaves of the seeds to come, by its cause: a refusal is the one that is meant, with so many
-- seeds; a fault of the shelf takes none; a fault of the crew comes when all that are asked for were taken; a fault of the
-- entropy and want of memory may come when some were taken.
abbrev pub StopsBefore : (Outcome → Type 0) → (ℕ → Type 0) → Option (List (List ℕ)) → Option (List (List ℕ)) → Status → Cause → Type 0
StopsBefore means asks coming comes status Refusal = (taken : ℕ) × means (refused_after taken status) × Took taken coming comes
StopsBefore means asks coming comes status Shelf = comes ≡ coming
StopsBefore means asks coming comes status Entropy = TookAsked asks coming comes
StopsBefore means asks coming comes status Crew = TookAll asks coming comes
StopsBefore means asks coming comes status Memory = (comes ≡ coming) ⊎ TookAsked asks coming comes
StopsBefore means asks coming comes status cause = ⊥

-- what a plan, or a refusal to make one, must be, with the seeds to come before and after it
abbrev pub PlansWith : (Outcome → Type 0) → (ℕ → Type 0) → Option (List (List ℕ)) → Option (List (List ℕ)) → Result Plan Status → Type 0
PlansWith means asks coming comes (Ok plan) = (taken : ℕ) × means (outcome_of taken plan) × Took taken coming comes
PlansWith means asks coming comes (Err status) = StopsBefore means asks coming comes status (cause_of status)

-- The seeds to come, where they are told, are enough: for what is taken over what the shelf holds, where `takes` says of which
-- numbers that is so, or for the most that may be taken, where the shelf doesn't tell.
abbrev pub HasEnoughSeeds : ℕ → (Held → ℕ → Type 0) → Option Held → Option (List (List ℕ)) → Type 0
HasEnoughSeeds most takes None coming = IfSome coming (λ seeds. most ≤ length seeds)
HasEnoughSeeds most takes (Some held) coming = (count : ℕ) → takes held count → IfSome coming (λ seeds. count ≤ length seeds)
