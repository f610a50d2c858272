use Rattle.std.proofs.Common.{◌≡◌, drop}
use Rattle.std.specs.List.{list_all}
use Rattle.drillbook.specs.Orders.{is_lawful}
use Rattle.drillbook.proofs.drill.each_is_lawful.Given as goal

abbrev pub invariant-loop-order : goal.invariant-loop-order
invariant-loop-order l = list_all (is_lawful l.setting) l.orders ≡ list_all (is_lawful l.setting) (drop l.order-index l.orders)
