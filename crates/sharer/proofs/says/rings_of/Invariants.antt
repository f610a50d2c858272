use Rattle.std.proofs.Common.{◌≡◌, ◌-◌, map}
use Rattle.plays.specs.Said.{points_up_to}
use Rattle.plays.specs.Stage.{stage_ring}
use Rattle.sharer.specs.View.{grids_of, stage_of}
use Rattle.sharer.proofs.says.rings_of.Given as goal

abbrev pub invariant-loop-to : goal.invariant-loop-to
invariant-loop-to l = l.rings ≡ map (stage_ring l.place.setting l.place.seat (grids_of l.place.dealer) (stage_of l.at)) (points_up_to (l.to - 1))
