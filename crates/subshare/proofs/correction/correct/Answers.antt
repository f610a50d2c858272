use Rattle.std.proofs.Common.{◌≡◌, ◌≤◌, ◌+◌, ◌^◌, refl, ◌∙◌, arith}
use Rattle.subshare.proofs.Steps.{first_distinct, weight_there, corrected_by}
use Rattle.subshare.proofs.correction.correct.Goals as goal

pub weights_at_zero-requires : goal.weights_at_zero-requires
weights_at_zero-requires c = first_distinct (c.args.bound + 1) c.as_slice.result.now (omega (arith, c.ranges.bound.fits)) (c.as_slice.ensures.value ∙ c.in_ok-points.ensures)

pub at-requires : goal.at-requires
at-requires c = weight_there (c.args.bound + 1) c.loop-k.k c.as_slice.result.now c.in_ok-weights.weights (c.as_slice.ensures.value ∙ c.in_ok-points.ensures) c.in_ok-weights.ensures c.loop-k-test.true

pub returns : goal.returns
returns c =
    let few : c.args.bound + 1 ≤ 2 ^ 32 = omega (arith, c.ranges.bound.fits) in
    let end : c.loop-k.k ≡ c.args.bound + 1 = omega (arith, c.loop-k-test.false, c.loop-k.auto.k-end) in
    corrected_by c.args.bound (c.args.bound + 1) c.loop-k.k c.as_slice.result.now c.in_ok-weights.weights c.args.shares.now c.args.errors.now c.loop-k.sum refl few end
    (c.as_slice.ensures.value ∙ c.in_ok-points.ensures) c.in_ok-weights.ensures c.loop-k.invariant
