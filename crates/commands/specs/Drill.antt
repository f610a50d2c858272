-- The drill of a phase, on the shelf.
use Rattle.std.specs.Prelude.{ℕ, List, [], Option, Some, None, Result, Ok, Err}
use Rattle.std.specs.FinMap.{get}
use Rattle.talk.specs.Shape.{Shape}
use Rattle.drillbook.specs.declared.order.Order.{Order}
use Rattle.drillbook.specs.declared.fault.DrillFault.{DrillFault}
use Rattle.drillbook.specs.Text.{drill_at}
use Rattle.shelf.specs.Held.{Held}
use Rattle.keyroom.specs.declared.status.Status.{Status}
use Rattle.keyroom.specs.declared.status.Status.TheVariants.{NoSuch, BadDrill}
use Rattle.keyroom.specs.declared.status.What.TheVariants.{Drill}

-- a drill's lines, or its first fault
abbrev pub drill_read : Result (List Order) DrillFault → Result (List Order) Status
drill_read (Ok orders) = Ok orders
drill_read (Err fault) = Err (BadDrill fault)

abbrev pub drill_step : Shape → Option (List ℕ) → Result (List Order) Status
drill_step s None = Err (NoSuch Drill)
drill_step s (Some text) = drill_read (drill_at s text)

-- step: where a drill is named, get it and read it
abbrev pub drill_of : Shape → Option (List ℕ) → Held → Result (List Order) Status
drill_of s None held = Ok []
drill_of s (Some file) held = drill_step s (get held file)
