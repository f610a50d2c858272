use Rattle.playback.specs.Recorded.{play_of}
use Rattle.viewshift.specs.Constants.{LanesFit}
use Rattle.viewshift.proofs.fitting.lanes_fit.Given as goal

abbrev pub invariant-loop-lane : goal.invariant-loop-lane
invariant-loop-lane l = LanesFit (play_of l.phase) l.dealer l.lane l.shares
