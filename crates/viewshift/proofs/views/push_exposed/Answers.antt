use Rattle.std.proofs.Common.{arith}
use Rattle.talk.specs.Sync.{has}
use Rattle.plays.proofs.Lists.{points_step}
use Rattle.choices61.specs.Views.{shares_at}
use Rattle.viewshift.specs.Through.{coeffs_in}
use Rattle.viewshift.proofs.views.push_exposed.Goals as goal

pub loop-member-preserved : goal.loop-member-preserved
loop-member-preserved c =
    points_step (shares_at (coeffs_in c.args.polynomials.now) (has c.args.mask)) c.loop-member.member c.args.list.now c.loop-member.list _ (omega arith) c.loop-member.invariant c.in_ok-push_if_exposed.ensures
