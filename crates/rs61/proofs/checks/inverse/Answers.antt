use Rattle.algebra61.proofs.Inverse.{inverse_is}
use Rattle.rs61.proofs.checks.inverse.Goals as goal

pub returns-in-Some : goal.returns-in-Some
returns-in-Some c = inverse_is c.args.x c.in-Some.inverse c.requires c.in-Some.ensures
