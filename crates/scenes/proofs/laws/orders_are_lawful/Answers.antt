use Rattle.scenes.proofs.LawfulOrders.{orders_are}
use Rattle.scenes.proofs.laws.orders_are_lawful.Goals as goal

pub returns : goal.returns
returns c = orders_are
