use Rattle.algebra61.specs.Poly.{coeff}
use Rattle.vss_core.proofs.Steps.{mapped_after}
use Rattle.vss_core.proofs.pairs.push_padded.Goals as goal

pub loop-k-preserved : goal.loop-k-preserved
loop-k-preserved c =
    mapped_after (coeff c.args.polynomial.now.coeffs) c.loop-k.k c.args.list.now c.loop-k.list _ _ c.loop-k.invariant c.in_ok-push.ensures c.coeff.ensures
