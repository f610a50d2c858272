use Rattle.std.proofs.Common.{arith, sym, ◌∙◌}
use Rattle.algebra61.proofs.Ring.{mul_one}
use Rattle.algebra61.proofs.Inverse.{rest_next}
use Rattle.field61.proofs.Steps.{zero_inside, one_left}
use Rattle.field61.proofs.Fe.inv.Goals as goal

pub returns-then-self-eq0 : goal.returns-then-self-eq0
returns-then-self-eq0 c = zero_inside _ _ c.self.view_is c.if-self-eq0.true

pub loop-rest-init : goal.loop-rest-init
loop-rest-init c = (omega arith, c.self.invariant, c.self.view_is ∙ sym (mul_one c.args.self))

pub loop-rest-preserved : goal.loop-rest-preserved
loop-rest-preserved c =
    let n = rest_next c.loop-rest.rest c.args.self c.loop-rest.factor c.loop-rest-test.true c.loop-rest.invariant.1 c.loop-rest.invariant.2 in
    (n.0, omega (arith, n.1, c.loop-rest.invariant.1), rw (c.neg-factor.ensures, c.mul.ensures, c.reduce.ensures) n.2)

pub returns : goal.returns
returns c = sym c.loop-rest.invariant.2 ∙ one_left _ c.loop-rest.invariant.0 c.loop-rest-test.false
