use Rattle.moveshare.specs.Lanes.{EachLane, IsErrorAt}
use Rattle.moveshare.proofs.lanes.errors_of.Given as goal

abbrev pub invariant-loop-lane : goal.invariant-loop-lane
invariant-loop-lane l = EachLane l.lane (IsErrorAt l.setting l.syndromes) l.lanes
