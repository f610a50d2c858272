use Rattle.std.proofs.Common.{ap, ◌∙◌}
use Rattle.algebra61.specs.Field.{◌+ₚ◌, ◌*ₚ◌}
use Rattle.bivar61.proofs.GridLemmas.{multiple_step}
use Rattle.bivar61.proofs.with_multiple.Goals as goal

pub loop-b-preserved : goal.loop-b-preserved
loop-b-preserved c =
    rw c.in_ok-push.ensures
    (multiple_step c.args.factor c.loop-b.b c.args.list.now c.args.other.now.coeffs c.loop-b.sums _ c.at.result.now c.add.result c.at.ensures
    (c.add.ensures ∙ ap (λ x. c.at.result.now +ₚ x) (c.mul.ensures ∙ ap (λ x. c.args.factor *ₚ x) c.coeff.ensures)) c.loop-b.invariant)
