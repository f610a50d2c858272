use Rattle.std.proofs.lemmas.Result.{IfOk-weaker}
use Rattle.poly61.proofs.Coefficients.{left_is}
use Rattle.poly61.proofs.division.take_off.Goals as goal

pub returns : goal.returns
returns c = record {
  coeffs = IfOk-weaker c.plus.result _ _
      (λ p e k. left_is c.args.rest.now.coeffs c.args.factor.now.coeffs c.args.other.now.coeffs c.in_ok-multiple.multiple c.in_ok-negative.negative p c.neg.result c.in_ok-multiple.ensures c.neg.ensures c.in_ok-negative.ensures e k)
      c.plus.ensures;
}
