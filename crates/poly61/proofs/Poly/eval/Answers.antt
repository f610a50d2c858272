use Rattle.std.proofs.Common.{◌≡◌, ap, sym, ◌∙◌, arith}
use Rattle.algebra61.specs.Field.{◌+ₚ◌, ◌*ₚ◌}
use Rattle.algebra61.specs.Poly.{eval}
use Rattle.lists.proofs.Places.{drop_before}
use Rattle.poly61.proofs.Lists.{list_is}
use Rattle.poly61.proofs.Poly.eval.Goals as goal

pub loop-k-preserved : goal.loop-k-preserved
loop-k-preserved c = (
  omega (arith, c.loop-k.invariant.0),
  c.add-value.ensures ∙ ap (λ z. c.at.result.now +ₚ z) (c.mul.ensures ∙ ap (λ z. c.args.x *ₚ z) c.loop-k.invariant.1)
      ∙ ap (λ p. eval p c.args.x) (sym (drop_before c.self.inside.list c.loop-k.k c.at.result.now c.loop-k-test.true c.at.ensures)),
)

pub returns : goal.returns
returns c =
    let e : c.loop-k.k ≡ 0 = omega (arith, c.loop-k-test.false) in
    c.loop-k.invariant.1 ∙ rw e (ap (λ p. eval p c.args.x) (list_is _ _ c.self.invariant c.self.view_is))
