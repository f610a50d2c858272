use Rattle.std.proofs.Common.{◌≤◌, length, ap, ◌∙◌, arith, take_all}
use Rattle.algebra61.specs.Field.{◌*ₚ◌}
use Rattle.algebra61.specs.Poly.{scale_list}
use Rattle.algebra61.proofs.PolyOps.{length-scale}
use Rattle.poly61.proofs.Lists.{multiple_step}
use Rattle.poly61.proofs.Poly.scale.Goals as goal

pub loop-k-preserved : goal.loop-k-preserved
loop-k-preserved c =
    c.in_ok-push.ensures
    ∙ multiple_step c.args.factor c.args.self.now.coeffs _ c.loop-k.k _
    (omega (arith, length-scale c.args.factor c.args.self.now.coeffs, c.loop-k-test.true, c.len-k-end.ensures))
    c.loop-k.invariant (c.mul.ensures ∙ ap (λ x. c.args.factor *ₚ x) c.coeff.ensures)

pub returns : goal.returns
returns c =
    let all : length (scale_list c.args.factor c.args.self.now.coeffs) ≤ c.loop-k.k =
    omega (arith, length-scale c.args.factor c.args.self.now.coeffs, c.loop-k-test.false, c.len-k-end.ensures) in
    rw (c.as_slice.ensures ∙ c.loop-k.invariant ∙ take_all _ _ all) at c.from_coeffs.ensures
