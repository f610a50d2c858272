use Rattle.std.proofs.Common.{◌≡◌, ap, ap₂, sym, ◌∙◌, arith}
use Rattle.algebra61.specs.Poly.{mul_list}
use Rattle.lists.proofs.Places.{drop_before}
use Rattle.poly61.proofs.Lists.{list_is}
use Rattle.poly61.proofs.Poly.times.Goals as goal

pub loop-k-preserved : goal.loop-k-preserved
loop-k-preserved c =
    let left = sym (drop_before c.self.inside.list c.loop-k.k c.at.result.now c.loop-k-test.true c.at.ensures) in
    (omega (arith, c.loop-k.invariant.0), rw c.loop-k.invariant.1 at c.in_ok-product.ensures ∙ ap (λ p. mul_list p c.other.inside.list) left)

pub returns : goal.returns
returns c =
    let e : c.loop-k.k ≡ 0 = omega (arith, c.loop-k-test.false) in
    let whole : c.loop-k.product ≡ mul_list c.args.self.now.coeffs c.args.other.now.coeffs =
    c.loop-k.invariant.1 ∙ rw e (ap₂ mul_list (list_is _ _ c.self.invariant c.self.view_is) (list_is _ _ c.other.invariant c.other.view_is)) in
    rw (c.as_slice.ensures ∙ whole) at c.from_coeffs.ensures
