use Rattle.std.proofs.Common.{◌≡◌, ◌-◌, ◌++◌, [], get_or}
use Rattle.vss_core.specs.States.{lane_items}
use Rattle.vss_core.proofs.dealer.Dealer.reveal_lane.Given as goal

abbrev pub invariant-loop-j : goal.invariant-loop-j
invariant-loop-j l = l.list ≡ l.fn.list ++ lane_items l.self.shape l.self.me (get_or l.self.grids l.lane []) l.posts l.lane (l.j - 1)
