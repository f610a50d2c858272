use Rattle.std.proofs.Common.{◌-◌}
use Rattle.scenes.specs.Scenes.{is_down_on}
use Rattle.scenes.proofs.Masks.{mask_lower, mask_more}
use Rattle.scenes.proofs.side.Side.down.Goals as goal

pub with_member-mask-requires-clause-lower : goal.with_member-mask-requires-clause-lower
with_member-mask-requires-clause-lower c = mask_lower (is_down_on c.args.self.now) (c.loop-member.member - 1) c.loop-member.mask c.loop-member.invariant

pub loop-member-preserved : goal.loop-member-preserved
loop-member-preserved c =
    mask_more (is_down_on c.args.self.now) c.loop-member.member c.loop-member.mask c.with_member-mask.result c.is_down.result c.loop-member.auto.member
    c.loop-member.invariant c.is_down.ensures c.with_member-mask.ensures
