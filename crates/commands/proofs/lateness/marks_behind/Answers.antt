use Rattle.std.proofs.Common.{ℕ, ◌+◌, arith}
use Rattle.commands.specs.Phase.{marked}
use Rattle.commands.proofs.Marks.{marks_more}
use Rattle.commands.proofs.lateness.marks_behind.Goals as goal

pub loop-member-preserved : goal.loop-member-preserved
loop-member-preserved c = record {
  low = omega arith;
  so_far = marks_more (λ (j : ℕ). marked c.args.marks.now (c.args.shift + j)) _ _ c.loop-member.member _ c.loop-member.invariant.low c.loop-member.invariant.so_far c.in_ok-push.ensures.items c.is_marked.ensures;
}
