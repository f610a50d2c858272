use Rattle.std.proofs.Common.{◌∙◌, sym, arith}
use Rattle.talk.specs.Sync.{has}
use Rattle.commands.proofs.Outs.{in_more, out_more}
use Rattle.commands.proofs.moving.members_in.Goals as goal
use Rattle.commands.proofs.moving.members_in.Goals.{then-in_mask+in_ok-push, else-in_mask}

pub loop-member-preserved : goal.loop-member-preserved
loop-member-preserved c =
    elim c.if-in_mask.branch [
      | then-in_mask+in_ok-push w ↦ record {
        low = omega arith;
        so_far = rw w.members-is (in_more (has c.args.mask) c.loop-member.members _ c.loop-member.member c.loop-member.invariant.low c.loop-member.invariant.so_far (sym c.in_mask.ensures ∙ w.if-in_mask.true) w.in_ok-push.ensures);
      }
      | else-in_mask w ↦ record {
        low = omega arith;
        so_far = rw w.members-is (out_more (has c.args.mask) c.loop-member.members c.loop-member.member c.loop-member.invariant.low c.loop-member.invariant.so_far (sym c.in_mask.ensures ∙ w.if-in_mask.false));
      }
    ]
