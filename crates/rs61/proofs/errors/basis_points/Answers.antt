use Rattle.std.proofs.Common.{◌≡◌, ◌+◌, ap, ap₂, ◌∙◌, arith}
use Rattle.algebra61.specs.Field.{fe}
use Rattle.rs61.specs.Errors.{basis_point}
use Rattle.rs61.proofs.ErrorLoops.{more_from}
use Rattle.rs61.proofs.errors.basis_points.Goals as goal

pub loop-k-preserved : goal.loop-k-preserved
loop-k-preserved c =
    let e : c.loop-k.k + 1 ≡ 1 + c.loop-k.k = omega arith in
    more_from (basis_point c.args.peak) 1 c.loop-k.k c.loop-k.list.items c.push.new.self.items (c.reduce.result, c.unit_at-value.result) c.loop-k.invariant c.in_ok-push.ensures.items
    (ap₂ (λ x y. (x, y)) (c.reduce.ensures ∙ ap fe c.from.ensures) c.unit_at-value.ensures ∙ ap (basis_point c.args.peak) e)
