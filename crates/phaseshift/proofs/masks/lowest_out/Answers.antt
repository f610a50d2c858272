use Rattle.std.proofs.Common.{sym, arith}
use Rattle.talk.specs.Sync.{has}
use Rattle.phaseshift.proofs.Members.{first_out}
use Rattle.phaseshift.proofs.masks.lowest_out.Goals as goal

pub returns-then-not-in_mask : goal.returns-then-not-in_mask
returns-then-not-in_mask c =
    sym
    (first_out c.args.members (has c.args.mask) c.loop-member.member c.loop-member.auto.member (omega (arith, c.loop-member-test.true)) c.loop-member.invariant
    (sym c.if-not-in_mask.ensures))
