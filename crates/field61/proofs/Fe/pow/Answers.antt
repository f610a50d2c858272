use Rattle.std.proofs.Common.{sym, ◌∙◌}
use Rattle.algebra61.proofs.Ring.{one_mul}
use Rattle.field61.proofs.Steps.{pow_step_odd, pow_step_even, pow_end}
use Rattle.field61.proofs.Fe.pow.Goals as goal
use Rattle.field61.proofs.Fe.pow.Goals.{then-left-eq1, else-left-eq1}

pub loop-left-init : goal.loop-left-init
loop-left-init c = sym (one_mul _)

pub loop-left-preserved : goal.loop-left-preserved
loop-left-preserved c =
    elim c.if-left-eq1.branch [
      | then-left-eq1 w ↦
          rw (w.product-is, w.mul-product.ensures, c.mul-base.ensures)
          (c.loop-left.invariant ∙ pow_step_odd _ _ _ w.if-left-eq1.true)
      | else-left-eq1 w ↦
          rw (w.product-is, c.mul-base.ensures) (c.loop-left.invariant ∙ pow_step_even _ _ _ w.if-left-eq1.false)
    ]

pub returns : goal.returns
returns c = sym (c.loop-left.invariant ∙ pow_end _ _ _ c.loop-left-test.false)
