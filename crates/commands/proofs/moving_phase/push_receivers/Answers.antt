use Rattle.std.proofs.Common.{ℕ, [], ◌∷◌, ◌+◌, ◌++◌, ◌∙◌, ap, arith}
use Rattle.talk.specs.Shape.{Shape, move_shape}
use Rattle.commands.specs.MovePhase.{new_on}
use Rattle.commands.specs.Run.{drilled_on}
use Rattle.commands.proofs.Pushing.{pushed_more, pushed_all}
use Rattle.commands.proofs.moving_phase.push_receivers.Goals as goal

pub loop-member-preserved : goal.loop-member-preserved
loop-member-preserved g c =
    let s : Shape = move_shape g.row.N c.args.bounds.old g.row.M c.args.bounds.new in
    record {
      low = omega arith;
      pushed = pushed_more (λ (j : ℕ). drilled_on s c.args.drill.now (g.row.N + j) (new_on {N = g.row.N} {M = g.row.M} s j)) _ _ _ c.loop-member.member c.loop-member.invariant.low c.loop-member.invariant.pushed
          (c.in_ok-push.ensures.items ∙ ap (λ mind. c.loop-member.minds.items ++ mind ∷ []) c.in_ok-receiver_of.ensures);
    }

pub returns : goal.returns
returns g c =
    let s : Shape = move_shape g.row.N c.args.bounds.old g.row.M c.args.bounds.new in
    pushed_all (λ (j : ℕ). drilled_on s c.args.drill.now (g.row.N + j) (new_on {N = g.row.N} {M = g.row.M} s j)) _ _ c.loop-member.member g.row.M (omega (arith, c.loop-member-test.false, c.loop-member.auto.member-end)) c.loop-member.invariant.pushed
