use Rattle.std.proofs.Common.{◌≤◌, length, ap₂, ◌∙◌, arith, take_all}
use Rattle.algebra61.specs.Field.{◌+ₚ◌}
use Rattle.algebra61.specs.Poly.{add_list}
use Rattle.algebra61.proofs.PolyOps.{length-add}
use Rattle.poly61.proofs.Lists.{sum_step}
use Rattle.poly61.proofs.Poly.plus.Goals as goal

pub loop-k-preserved : goal.loop-k-preserved
loop-k-preserved c =
    c.in_ok-push.ensures
    ∙ sum_step c.args.self.now.coeffs c.args.other.now.coeffs _ c.loop-k.k _
    (omega (arith, length-add c.args.self.now.coeffs c.args.other.now.coeffs, c.loop-k-test.true, c.max-len.ensures, c.len.ensures, c.len-2.ensures))
    c.loop-k.invariant (c.add.ensures ∙ ap₂ (λ a b. a +ₚ b) c.coeff.ensures c.coeff-in-loop-k.ensures)

pub returns : goal.returns
returns c =
    let all : length (add_list c.args.self.now.coeffs c.args.other.now.coeffs) ≤ c.loop-k.k =
    omega (arith, length-add c.args.self.now.coeffs c.args.other.now.coeffs, c.loop-k-test.false, c.max-len.ensures, c.len.ensures, c.len-2.ensures) in
    rw (c.as_slice.ensures ∙ c.loop-k.invariant ∙ take_all _ _ all) at c.from_coeffs.ensures
