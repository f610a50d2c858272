use Rattle.std.proofs.Common.{ap, ◌∙◌, ◌++◌, ◌∷◌, []}
use Rattle.algebra61.specs.Field.{Fp, zeroₚ}
use Rattle.poly61.proofs.Lists.{inverse_there, inverse_of}
use Rattle.poly61.proofs.Lagrange.{below_apart, one_more, weights_end}
use Rattle.poly61.proofs.weights.weights_at_zero.Goals as goal

pub unwrap-inverse-requires : goal.unwrap-inverse-requires
unwrap-inverse-requires c =
    inverse_there c.inv.result c.differences.result (below_apart c.args.xs.now c.x-item.result c.differences.result c.differences.ensures) c.inv.ensures

pub loop-x-preserved : goal.loop-x-preserved
loop-x-preserved c =
    one_more c.args.xs.now c.loop-x.weights c.push.new.self c.loop-x.x-index c.x-item.result zeroₚ c.differences.result c.unwrap-inverse.result c.differences-in-loop-x.result
    c.loop-x-test.true c.x-item.is c.differences.ensures (inverse_of c.inv.result c.differences.result c.unwrap-inverse.result c.unwrap-inverse.ensures c.inv.ensures)
    c.differences-in-loop-x.ensures c.loop-x.invariant (c.in_ok-push.ensures ∙ ap (λ (x : Fp). c.loop-x.weights ++ x ∷ []) c.mul.ensures)

pub returns : goal.returns
returns c = weights_end c.args.xs.now c.loop-x.weights c.loop-x.x-index zeroₚ c.requires c.loop-x-test.false c.loop-x.invariant
