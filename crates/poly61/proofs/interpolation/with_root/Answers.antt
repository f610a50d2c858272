use Rattle.std.proofs.Common.{◌≡◌, ap, ◌∙◌, [], ◌∷◌}
use Rattle.std.proofs.lemmas.Result.{IfOk-weaker}
use Rattle.algebra61.specs.Field.{Fp, negₚ, oneₚ}
use Rattle.algebra61.specs.Polynomial.{poly}
use Rattle.poly61.proofs.Newton.{rooted_at, rooted_short}
use Rattle.poly61.proofs.interpolation.with_root.Goals as goal

linear : (c : goal.After-drop-factor-inside) → c.in_ok-factor.factor ≡ poly (negₚ c.args.root ∷ oneₚ ∷ [])
linear c = c.in_ok-factor.ensures ∙ ap (λ (r : Fp). poly (r ∷ oneₚ ∷ [])) c.neg.ensures

pub returns-clause-short : goal.returns-clause-short
returns-clause-short c =
    IfOk-weaker c.times.result _ _ (λ p e. rooted_short c.args.root c.args.product.now.coeffs c.in_ok-factor.factor p (linear c) e) c.times.ensures

pub returns-clause-values : goal.returns-clause-values
returns-clause-values c =
    IfOk-weaker c.times.result _ _ (λ p e z. rooted_at c.args.root c.args.product.now.coeffs c.in_ok-factor.factor p z (linear c) e) c.times.ensures
