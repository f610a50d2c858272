use Rattle.periods.specs.Move.{IsOpenedSyndrome}
use Rattle.subshare.specs.Opening.{post_of}
use Rattle.moveshare.specs.Lanes.{EachLane}
use Rattle.moveshare.proofs.lanes.open_lanes.Given as goal

abbrev pub invariant-loop-lane : goal.invariant-loop-lane
invariant-loop-lane l = EachLane l.lane (IsOpenedSyndrome l.setting (post_of l.setting l.posts)) l.lanes
