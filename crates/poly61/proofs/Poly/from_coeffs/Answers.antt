use Rattle.std.proofs.Common.{◌≡◌, ap, ◌∙◌, take_all}
use Rattle.algebra61.specs.Trim.{trim, trim-trim}
use Rattle.poly61.proofs.Lists.{poly_same}
use Rattle.poly61.proofs.Poly.from_coeffs.Goals as goal

copied : (c : goal.After-loop-c) → c.loop-c.list ≡ trim c.args.coeffs.now
copied c = c.loop-c.invariant ∙ take_all _ _ c.loop-c-test.false ∙ c.trimmed_len.ensures.trimmed

pub invariant_of-result : goal.invariant_of-result
invariant_of-result c = rw (copied c) (trim-trim c.args.coeffs.now)

pub returns : goal.returns
returns c = poly_same _ _ (ap trim (copied c) ∙ trim-trim c.args.coeffs.now)
