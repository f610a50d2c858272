use Rattle.std.proofs.Common.{[], get_or}
use Rattle.plays.proofs.Lists.{places_step}
use Rattle.vss_core.specs.States.{lane_items}
use Rattle.vss_core.proofs.dealer.Dealer.all_reveals.Goals as goal

pub loop-lane-preserved : goal.loop-lane-preserved
loop-lane-preserved c =
    places_step (λ k. lane_items c.args.self.now.shape c.args.self.now.me (get_or c.args.self.now.grids k []) c.args.posts.now k c.args.self.now.shape.receivers) c.loop-lane.lane c.loop-lane.list _ c.loop-lane.invariant c.in_ok-reveal_lane.ensures
