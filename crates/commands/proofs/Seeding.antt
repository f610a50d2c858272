-- The minds of members with their files and seeds.
use Rattle.std.specs.Prelude.{ℕ, List, Option}
use Rattle.algebra61.specs.Field.{Fp}
use Rattle.talk.specs.Shape.{Shape}
use Rattle.drillbook.specs.declared.order.Order.{Order}
use Rattle.drillbook.specs.Word.{DrilledMind}
use Rattle.keyroom.specs.declared.steps.Found.{Found}
use Rattle.commands.specs.Run.{numbered, drilled_on}
use Rattle.commands.specs.Standing.{Holding, holdings}

-- those of the members from a seat on: `on` gives a seat's mind by what its member takes part with
abbrev pub minds_from : {M : Type 0} → (ℕ → Option Holding → M) → (ℕ → List Fp → List ℕ → Holding) → Shape → List Order → ℕ → List Found → List (List ℕ) → List (DrilledMind M)
minds_from on take s orders seat files seeds = numbered (drilled_on s orders) seat (numbered on seat (holdings take seat files seeds))
