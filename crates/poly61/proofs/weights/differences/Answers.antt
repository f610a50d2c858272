use Rattle.algebra61.proofs.Ring.{one_mul}
use Rattle.poly61.proofs.Lists.{differ_by_test, same_by_test}
use Rattle.poly61.proofs.Lagrange.{skipped, taken, differences_end}
use Rattle.poly61.proofs.weights.differences.Goals as goal
use Rattle.poly61.proofs.weights.differences.Goals.{then-ne, else-ne}

pub loop-z-init : goal.loop-z-init
loop-z-init c = one_mul _

pub loop-z-preserved : goal.loop-z-preserved
loop-z-preserved c =
    elim c.if-ne.branch [
      | then-ne w ↦
          rw (w.product-is, w.mul-product.ensures, w.sub.ensures)
          (taken c.args.xs.now c.loop-z.z-index c.args.x c.args.y c.z-item.result c.loop-z.product _ c.loop-z-test.true c.z-item.is (differ_by_test c.z-item.result c.args.x w.if-ne.ensures) c.loop-z.invariant)
      | else-ne w ↦
          rw w.product-is
          (skipped c.args.xs.now c.loop-z.z-index c.args.x c.args.y c.z-item.result c.loop-z.product _ c.loop-z-test.true c.z-item.is (same_by_test c.z-item.result c.args.x w.if-ne.ensures) c.loop-z.invariant)
    ]

pub returns : goal.returns
returns c = differences_end c.args.xs.now c.loop-z.z-index c.args.x c.args.y _ _ c.loop-z-test.false c.loop-z.invariant
