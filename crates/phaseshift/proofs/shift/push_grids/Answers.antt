use Rattle.std.proofs.Common.{get_or}
use Rattle.algebra61.specs.Field.{zeroₚ}
use Rattle.phaseshift.specs.Factors.{grid_with}
use Rattle.phaseshift.proofs.Pushing.{lane_step}
use Rattle.phaseshift.proofs.shift.push_grids.Goals as goal

pub loop-lane-preserved : goal.loop-lane-preserved
loop-lane-preserved c =
    lane_step (grid_with c.args.phase.now c.args.factors.now (λ lane. get_or c.args.difference.now lane zeroₚ) c.args.dealer) c.loop-lane.lane c.args.grids.now c.loop-lane.grids c.push.new.self
    c.in_ok-other_grid.field-0 c.loop-lane.invariant c.in_ok-push.ensures c.in_ok-other_grid.ensures
