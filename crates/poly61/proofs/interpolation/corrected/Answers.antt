use Rattle.std.proofs.Common.{◌≡◌, sym, ap, ◌∙◌}
use Rattle.std.proofs.lemmas.Result.{IfOk-weaker}
use Rattle.algebra61.specs.Field.{oneₚ, ◌-ₚ◌, ◌*ₚ◌}
use Rattle.algebra61.specs.Poly.{eval}
use Rattle.poly61.proofs.Lists.{inverse_of}
use Rattle.poly61.proofs.Newton.{corrected_at, corrected_short, corrected_meets, corrected_keeps}
use Rattle.poly61.proofs.interpolation.corrected.Goals as goal

pub returns-clause-short : goal.returns-clause-short
returns-clause-short c =
    IfOk-weaker c.plus.result _ _
    (λ p e. corrected_short c.args.found.now.coeffs c.args.product.now.coeffs c.in_ok-multiple.multiple p c.mul-factor.result c.in_ok-multiple.ensures e)
    c.plus.ensures

pub returns-clause-value : goal.returns-clause-value
returns-clause-value c =
    let inverts : eval c.args.product.now.coeffs c.args.x *ₚ c.unwrap-inverse.result ≡ oneₚ =
    ap (λ v. v *ₚ c.unwrap-inverse.result) (sym c.eval.ensures) ∙ inverse_of c.inv.result c.eval.result c.unwrap-inverse.result c.unwrap-inverse.ensures c.inv.ensures in
    let factor : c.mul-factor.result ≡ (c.args.y -ₚ eval c.args.found.now.coeffs c.args.x) *ₚ c.unwrap-inverse.result =
    c.mul-factor.ensures ∙ ap (λ v. v *ₚ c.unwrap-inverse.result) (c.sub.ensures ∙ ap (λ v. c.args.y -ₚ v) c.eval-2.ensures) in
    IfOk-weaker c.plus.result _ _
    (λ p e. corrected_meets c.args.y (eval c.args.found.now.coeffs c.args.x) (eval c.args.product.now.coeffs c.args.x) c.unwrap-inverse.result c.mul-factor.result _ inverts factor
    (corrected_at c.args.found.now.coeffs c.args.product.now.coeffs c.in_ok-multiple.multiple p c.mul-factor.result c.args.x c.in_ok-multiple.ensures e))
    c.plus.ensures

pub returns-clause-same : goal.returns-clause-same
returns-clause-same c =
    IfOk-weaker c.plus.result _ _
    (λ p e z h. corrected_keeps (eval c.args.found.now.coeffs z) (eval c.args.product.now.coeffs z) c.mul-factor.result _ h
    (corrected_at c.args.found.now.coeffs c.args.product.now.coeffs c.in_ok-multiple.multiple p c.mul-factor.result z c.in_ok-multiple.ensures e))
    c.plus.ensures
