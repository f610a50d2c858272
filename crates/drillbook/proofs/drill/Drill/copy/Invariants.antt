use Rattle.std.proofs.Common.{◌≡◌, take}
use Rattle.drillbook.proofs.drill.Drill.copy.Given as goal

abbrev pub invariant-loop-order : goal.invariant-loop-order
invariant-loop-order l = l.copied ≡ take l.order-index l.self
