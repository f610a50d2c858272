use Rattle.std.proofs.Common.{◌≡◌, drop}
use Rattle.drillbook.specs.Orders.{names}
use Rattle.drillbook.proofs.drill.Drill.names.Given as goal

abbrev pub invariant-loop-order : goal.invariant-loop-order
invariant-loop-order l = names l.self l.seat ≡ names (drop l.order-index l.self) l.seat
