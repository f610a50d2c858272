use Rattle.std.proofs.Common.{◌∷◌, [], ◌+◌, ap, ◌∙◌, length, length-append}
use Rattle.talk.specs.declared.messages.Post.TheVariants.{Quiet}
use Rattle.talk.specs.declared.messages.Ring.TheVariants.{Nothing}
use Rattle.sharer.proofs.Silence.{quiet_more, nothing_more}
use Rattle.sharer.proofs.tests.silence.Goals as goal

pub loop-seat-preserved : goal.loop-seat-preserved
loop-seat-preserved c = record {
  posts = ap length c.in_ok-push.ensures ∙ length-append c.loop-seat.posts (Quiet ∷ []) ∙ ap (λ n. n + 1) c.loop-seat.invariant.posts;
  rings = ap length c.in_ok-push-2.ensures ∙ length-append c.loop-seat.rings (Nothing ∷ []) ∙ ap (λ n. n + 1) c.loop-seat.invariant.rings;
  quiet = λ round. quiet_more c.args.s.now round 1 c.loop-seat.posts c.push.new.self (c.loop-seat.invariant.quiet round) c.in_ok-push.ensures;
  nothing = λ seat round. nothing_more c.args.s.now round seat 1 c.loop-seat.rings c.push-in-loop-seat.new.self (c.loop-seat.invariant.nothing seat round) c.in_ok-push-2.ensures;
}
