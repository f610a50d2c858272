-- Changes and plans as the code has them, without where they lie in memory.
use Rattle.std.specs.Prelude.{ℕ, List, map, string_bytes}
use Rattle.shelf.specs.Held as shelf
use Rattle.keyroom.specs.declared.plan.Change.{Change}
use Rattle.keyroom.specs.declared.plan.Change.TheVariants.{Put, Remove}
use Rattle.keyroom.specs.declared.plan.Plan.{Plan}
use Rattle.keyroom.specs.Outcome.{Outcome, done_with}

abbrev pub change_of : Change → shelf.Change
change_of (Put name bytes) = shelf.Put (string_bytes name) bytes.items
change_of (Remove name) = shelf.Remove (string_bytes name)

abbrev pub changes_of : List Change → List shelf.Change
changes_of changes = map change_of changes

-- what a plan comes to, where so many seeds were taken for it
abbrev pub outcome_of : ℕ → Plan → Outcome
outcome_of taken plan = done_with taken (changes_of plan.changes.items) (string_bytes plan.text)
