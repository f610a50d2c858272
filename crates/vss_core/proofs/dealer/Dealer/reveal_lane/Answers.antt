use Rattle.std.proofs.Common.{◌+◌, ◌-◌, ◌*◌, [], get_or, arith}
use Rattle.sharing61.specs.Rules.{reveal_of}
use Rattle.sizes.specs.Instances.{instance_at}
use Rattle.plays.specs.Said.{reveal_item}
use Rattle.plays.specs.Seat.{heard_complaint}
use Rattle.plays.proofs.Lists.{points_step}
use Rattle.vss_core.proofs.dealer.Dealer.reveal_lane.Goals as goal

pub loop-j-preserved : goal.loop-j-preserved
loop-j-preserved c =
    points_step
    (λ j. reveal_item c.args.self.now.shape.degree c.args.lane j (reveal_of c.args.self.now.shape.receivers (get_or c.args.self.now.grids c.args.lane []) (heard_complaint c.args.self.now.shape c.args.posts.now (instance_at c.args.self.now.me c.args.lane) j) j))
    c.loop-j.j c.args.list.now _ _ (omega arith) c.loop-j.invariant c.in_ok-reveal_one.ensures
