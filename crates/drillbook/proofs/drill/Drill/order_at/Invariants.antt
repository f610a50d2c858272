use Rattle.std.proofs.Common.{◌≡◌, drop}
use Rattle.drillbook.specs.Orders.{order_at}
use Rattle.drillbook.proofs.drill.Drill.order_at.Given as goal

abbrev pub invariant-loop-order : goal.invariant-loop-order
invariant-loop-order l = order_at l.self l.seat l.round ≡ order_at (drop l.order-index l.self) l.seat l.round
