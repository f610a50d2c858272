use Rattle.std.proofs.Common.{arith, sym, ◌∙◌, ap, length}
use Rattle.algebra61.specs.Polynomial.{Polynomial}
use Rattle.poly61.proofs.Lists.{inverse_there, inverse_of}
use Rattle.poly61.proofs.Coefficients.{parts_start, parts_next, parts_end, shorter_step, last_of}
use Rattle.poly61.proofs.Poly.div_rem.Goals as goal

pub loop-len-init : goal.loop-len-init
loop-len-init c = (
  c.len-len.ensures ∙ ap (λ (p : Polynomial). length p.coeffs) (sym c.in_ok-rest.ensures),
  rw c.in_ok-rest.ensures (parts_start c.args.self.now c.args.other.now c.in_ok-quotient.quotient c.in_ok-quotient.ensures),
)

pub unwrap-inverse-requires : goal.unwrap-inverse-requires
unwrap-inverse-requires c =
    inverse_there c.inv.result c.coeff.result (last_of c.args.other.now c.coeff.result c.len-size.result c.requires c.len-size.ensures c.coeff.ensures) c.inv.ensures

pub loop-len-preserved : goal.loop-len-preserved
loop-len-preserved c = (
  c.len-len-in-loop-len.ensures,
  parts_next c.args.self.now c.args.other.now c.loop-len.quotient c.loop-len.rest c.in_ok-next.next c.in_ok-quotient-2.quotient c.in_ok-rest-2.rest
      c.loop-len.invariant.1 c.in_ok-rest-2.ensures.coeffs c.in_ok-quotient-2.ensures,
)

pub loop-len-smaller : goal.loop-len-smaller
loop-len-smaller c =
    omega (
      arith,
      c.len-len-in-loop-len.ensures,
      shorter_step c.args.other.now c.loop-len.rest c.in_ok-next.next c.in_ok-rest-2.rest c.coeff.result c.coeff-in-loop-len.result c.unwrap-inverse.result c.mul-factor.result
          c.loop-len.len c.len-size.result c.requires c.len-size.ensures c.loop-len.invariant.0 c.loop-len-test.true c.coeff.ensures
          (inverse_of c.inv.result c.coeff.result c.unwrap-inverse.result c.unwrap-inverse.ensures c.inv.ensures)
          c.coeff-in-loop-len.ensures c.mul-factor.ensures c.in_ok-next.ensures c.in_ok-rest-2.ensures.coeffs,
    )

pub returns : goal.returns
returns c = record {
  sums = parts_end c.args.self.now c.args.other.now c.loop-len.quotient c.loop-len.rest c.loop-len.invariant.1;
  short = omega (arith, c.loop-len.invariant.0, c.loop-len-test.false, c.len-size.ensures);
}
