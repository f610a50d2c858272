use Rattle.std.proofs.Common.{◌∙◌}
use Rattle.viewshift.proofs.Meeting.{points_differ}
use Rattle.viewshift.proofs.polynomials.polynomials_of.Goals as goal

pub interpolate-requires : goal.interpolate-requires
interpolate-requires c = points_differ c.loop-lane.lane c.args.shares.now c.as_slice.result.now c.requires (c.as_slice.ensures.value ∙ c.in_ok-points.ensures)
