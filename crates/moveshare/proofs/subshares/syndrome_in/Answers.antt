use Rattle.std.proofs.Common.{◌≡◌, length, ap, ◌∙◌, arith}
use Rattle.talk.specs.Shape.{Shape}
use Rattle.members.specs.Shares.{kept_in}
use Rattle.periods.specs.Move.{old_bound}
use Rattle.periods.specs.Mover.{subshare_in}
use Rattle.moveshare.proofs.Answering.{OldCommittee, old_committee, length-shares, syndrome_of_shares}
use Rattle.moveshare.proofs.subshares.syndrome_in.Goals as goal

long : (c : goal.After-as_slice) → length c.as_slice.result.now ≡ c.args.sharer.now.shape.dealers
long c =
    length-shares c.args.sharer.now.shape.dealers (subshare_in (kept_in c.args.sharer.now.stage) c.args.lane) c.as_slice.result.now (c.as_slice.ensures ∙ c.in_ok-shares.ensures)

bound_is : (c : goal.After-as_slice) → c.old_bound-bound.result ≡ old_bound c.args.sharer.now.shape
bound_is c = c.old_bound-bound.ensures.is ∙ ap old_bound c.setting.ensures

pub syndrome_share-requires-clause-some : goal.syndrome_share-requires-clause-some
syndrome_share-requires-clause-some c =
    let old : OldCommittee c.args.sharer.now.shape = old_committee c.args.sharer.now.shape c.requires.moving in
    omega (arith, long c, bound_is c, old.dealers, old.checks)

pub syndrome_share-requires-clause-few : goal.syndrome_share-requires-clause-few
syndrome_share-requires-clause-few c =
    omega (arith, long c, c.old_bound-bound.ensures.few, ap (λ (s : Shape). s.dealers) c.setting.ensures)

pub returns : goal.returns
returns c =
    let s : Shape = c.args.sharer.now.shape in
    let old : OldCommittee s = old_committee s c.requires.moving in
    let bound : c.old_bound-bound.result ≡ old_bound s = c.old_bound-bound.ensures.is ∙ ap old_bound c.setting.ensures in
    syndrome_of_shares s.dealers s.checks c.old_bound-bound.result (subshare_in (kept_in c.args.sharer.now.stage) c.args.lane) c.as_slice.result.now c.in_ok-values.values
    (omega (arith, old.dealers, bound)) (c.as_slice.ensures ∙ c.in_ok-shares.ensures) c.in_ok-values.ensures
