use Rattle.std.proofs.Common.{ap, ◌∙◌}
use Rattle.algebra61.specs.Poly.{coeff}
use Rattle.poly61.proofs.Lists.{list_is}
use Rattle.poly61.proofs.Poly.coeff.Goals as goal

pub returns : goal.returns
returns c = c.coeff_of.ensures ∙ ap (λ p. coeff p c.args.k) (list_is _ _ c.self.invariant c.self.view_is)
