use Rattle.std.proofs.Common.{◌≡◌, ◌+◌, ap, ◌∙◌, arith}
use Rattle.periods.specs.Move.{syndrome_in}
use Rattle.rs61.proofs.ErrorLoops.{more_from}
use Rattle.subshare.specs.Opening.{post_of}
use Rattle.subshare.proofs.opening.values_at.Goals as goal

pub loop-index-preserved : goal.loop-index-preserved
loop-index-preserved c =
    let e : c.loop-index.index + 1 ≡ 1 + c.loop-index.index = omega arith in
    more_from (λ receiver. syndrome_in c.args.k (post_of c.args.setting.now c.args.posts.now receiver)) 1 c.loop-index.index c.loop-index.list.items c.push.new.self.items c.value_at.result c.loop-index.invariant c.in_ok-push.ensures.items
    (c.value_at.ensures ∙ ap (λ receiver. syndrome_in c.args.k (post_of c.args.setting.now c.args.posts.now receiver)) e)
