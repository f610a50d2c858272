use Rattle.std.proofs.Common.{le_refl, arith}
use Rattle.poly61.proofs.Newton.{all_built, root_apart, one_point_more, through_end}
use Rattle.poly61.proofs.interpolation.interpolate.Goals as goal

pub loop-k-init : goal.loop-k-init
loop-k-init c = (le_refl _, all_built c.args.list.now c.in_ok-found.found c.in_ok-product.product c.in_ok-found.ensures c.in_ok-product.ensures)

pub corrected-requires : goal.corrected-requires
corrected-requires c =
    root_apart c.args.list.now c.loop-k.k c.index-list-k.result c.loop-k.found.coeffs c.loop-k.product.coeffs c.requires c.loop-k-test.true c.loop-k.invariant.0 c.index-list-k.is
    c.loop-k.invariant.1

pub loop-k-preserved : goal.loop-k-preserved
loop-k-preserved c = (
  omega (arith, c.loop-k.invariant.0),
  one_point_more c.args.list.now c.loop-k.k c.index-list-k.result c.loop-k.found.coeffs c.loop-k.product.coeffs c.in_ok-found-2.found.coeffs c.in_ok-product-2.product.coeffs
      c.loop-k-test.true c.loop-k.invariant.0 c.index-list-k.is c.loop-k.invariant.1 c.in_ok-found-2.ensures.short c.in_ok-found-2.ensures.value c.in_ok-found-2.ensures.same
      c.in_ok-product-2.ensures.short c.in_ok-product-2.ensures.values,
)

pub returns : goal.returns
returns c = through_end c.args.list.now c.loop-k.k c.loop-k.found c.loop-k.product.coeffs c.loop-k-test.false c.loop-k.invariant.1
