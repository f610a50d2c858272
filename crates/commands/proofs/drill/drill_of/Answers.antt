use Rattle.std.proofs.Common.{◌≤◌, List, sym, subst, arith}
use Rattle.drillbook.specs.declared.order.Order.{Order}
use Rattle.drillbook.specs.Text.{named_among}
use Rattle.keyroom.proofs.Refusals.{from_nothing}
use Rattle.commands.proofs.Drills.{none_named}
use Rattle.commands.proofs.drill.drill_of.Goals as goal

pub returns-in_default-clause-few : goal.returns-in_default-clause-few
returns-in_default-clause-few g c =
    subst (λ (os : List Order). named_among os c.args.setting.now.shift c.args.setting.now.receivers ≤ c.args.setting.now.bound) (sym c.none.ensures)
    (omega (arith, none_named c.args.setting.now.receivers c.args.setting.now.shift))

pub returns-clause-cause : goal.returns-clause-cause
returns-clause-cause g c = from_nothing _ _ c.drill_from.result c.drill_from.ensures.cause
