use Rattle.std.proofs.Common.{◌≡◌, ap, sym, ◌∙◌, arith}
use Rattle.algebra61.specs.Field.{◌+ₚ◌, ◌*ₚ◌}
use Rattle.algebra61.specs.Poly.{eval}
use Rattle.lists.proofs.Places.{drop_before}
use Rattle.bivar61.proofs.value_at.Goals as goal

pub loop-k-preserved : goal.loop-k-preserved
loop-k-preserved c = (
  omega (arith, c.loop-k.invariant.0),
  c.add-value.ensures ∙ ap (λ z. c.at.result.now +ₚ z) (c.mul.ensures ∙ ap (λ z. c.args.x *ₚ z) c.loop-k.invariant.1)
      ∙ ap (λ p. eval p c.args.x) (sym (drop_before c.args.coefficients.now c.loop-k.k c.at.result.now c.loop-k-test.true c.at.ensures)),
)
