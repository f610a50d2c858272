use Rattle.std.proofs.Common.{◌≡◌, ◌+◌, ap, ◌∙◌, arith}
use Rattle.algebra61.specs.Field.{fe}
use Rattle.rs61.proofs.ErrorLoops.{more_from}
use Rattle.subshare.proofs.correction.first_points.Goals as goal

pub loop-index-preserved : goal.loop-index-preserved
loop-index-preserved c =
    let e : c.loop-index.index + 1 ≡ 1 + c.loop-index.index = omega arith in
    more_from fe 1 c.loop-index.index c.loop-index.list.items c.push.new.self.items c.reduce.result c.loop-index.invariant c.in_ok-push.ensures.items (c.reduce.ensures ∙ ap fe e)
