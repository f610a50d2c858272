use Rattle.std.proofs.Common.{◌≡◌, ap, sym, ◌∙◌}
use Rattle.std.proofs.lemmas.Result.{IfOk-weaker}
use Rattle.algebra61.specs.Field.{fe, oneₚ, ◌*ₚ◌}
use Rattle.poly61.proofs.Lists.{inverse_there, inverse_of}
use Rattle.phaseshift.proofs.Coefficients.{apart_from_zero, vanishing_is}
use Rattle.phaseshift.proofs.vanishing.vanishing_at.Goals as goal

pub unwrap-inverse-requires : goal.unwrap-inverse-requires
unwrap-inverse-requires c =
    inverse_there c.inv.result c.reduce.result (λ e. apart_from_zero c.args.member c.requires.0 c.requires.1 (ap fe (sym c.from.ensures) ∙ sym c.reduce.ensures ∙ e)) c.inv.ensures

pub returns : goal.returns
returns c =
    let inverts : fe c.args.member *ₚ c.unwrap-inverse.result ≡ oneₚ =
    ap (λ v. v *ₚ c.unwrap-inverse.result) (sym (c.reduce.ensures ∙ ap fe c.from.ensures))
    ∙ inverse_of c.inv.result c.reduce.result c.unwrap-inverse.result c.unwrap-inverse.ensures c.inv.ensures in
    IfOk-weaker c.from_coeffs.result _ _
    (λ p e. vanishing_is c.args.member c.unwrap-inverse.result c.neg.result p c.requires.0 c.requires.1 inverts c.neg.ensures e) c.from_coeffs.ensures
