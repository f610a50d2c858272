use Rattle.std.proofs.Common.{◌≡◌, [], get_or}
use Rattle.std.specs.List.{flat_map}
use Rattle.plays.specs.Said.{places}
use Rattle.vss_core.specs.States.{lane_items}
use Rattle.vss_core.proofs.dealer.Dealer.all_reveals.Given as goal

abbrev pub invariant-loop-lane : goal.invariant-loop-lane
invariant-loop-lane l = l.list ≡ flat_map (λ k. lane_items l.self.shape l.self.me (get_or l.self.grids k []) l.posts k l.self.shape.receivers) (places l.lane)
