use Rattle.std.proofs.Common.{◌≡◌, ◌-◌, ◌||◌, cond, ltb, ap, ◌∙◌}
use Rattle.scenes.specs.Exposed.{is_filled}
use Rattle.scenes.specs.Scenes.{is_down_on}
use Rattle.scenes.proofs.Filling.{next_taken, next_wanting_at}
use Rattle.scenes.proofs.Masks.{mask_lower, mask_more}
use Rattle.scenes.proofs.exposed.exposed_on.Goals as goal

pub with_member-mask-requires-clause-lower : goal.with_member-mask-requires-clause-lower
with_member-mask-requires-clause-lower c =
    mask_lower (is_filled c.args.holding.now.members c.args.holding.now.bound (is_down_on c.args.seen.now)) (c.loop-member.member - 1) c.loop-member.mask c.loop-member.invariant.mask

pub loop-member-preserved : goal.loop-member-preserved
loop-member-preserved c =
    let taken : c.is_taken.result ≡ is_filled c.args.holding.now.members c.args.holding.now.bound (is_down_on c.args.seen.now) c.loop-member.member =
    c.is_taken.ensures
    ∙ ap (λ b. b || ltb 0 c.loop-member.wanting) c.is_down-down.ensures
    ∙ next_taken c.args.holding.now.members c.args.holding.now.bound (is_down_on c.args.seen.now) c.loop-member.member c.loop-member.wanting c.loop-member.invariant.wanting in
    record {
      mask =
          mask_more (is_filled c.args.holding.now.members c.args.holding.now.bound (is_down_on c.args.seen.now)) c.loop-member.member c.loop-member.mask c.with_member-mask.result c.is_taken.result
          c.loop-member.auto.member c.loop-member.invariant.mask taken c.with_member-mask.ensures;
      wanting =
          c.wanting_after-wanting.ensures
          ∙ ap (λ b. cond b c.loop-member.wanting (c.loop-member.wanting - 1)) c.is_down-down.ensures
          ∙ next_wanting_at c.args.holding.now.members c.args.holding.now.bound (is_down_on c.args.seen.now) c.loop-member.member c.loop-member.wanting c.loop-member.auto.member c.loop-member.invariant.wanting;
    }
