use Rattle.std.proofs.Common.{◌≡◌, map}
use Rattle.sizes.specs.Instances.{instance_at}
use Rattle.plays.specs.Said.{places}
use Rattle.playback.specs.Recorded.{play_of}
use Rattle.playback.proofs.seats.own_grids.Given as goal

abbrev pub invariant-loop-lane : goal.invariant-loop-lane
invariant-loop-lane l = l.list ≡ map (λ lane. (play_of l.phase).grid (instance_at l.dealer lane)) (places l.lane)
