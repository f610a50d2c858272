use Rattle.std.proofs.Common.{[], get_or}
use Rattle.algebra61.specs.Field.{zeroₚ}
use Rattle.plays.proofs.Lists.{points_step}
use Rattle.phaseshift.specs.Factors.{dealer_with}
use Rattle.phaseshift.proofs.shift.other_grids.Goals as goal

pub loop-dealer-preserved : goal.loop-dealer-preserved
loop-dealer-preserved c =
    points_step (dealer_with c.args.phase.now c.args.factors.now (λ lane. get_or c.args.difference.now lane zeroₚ)) c.loop-dealer.dealer [] c.loop-dealer.grids c.push_grids.new.grids c.loop-dealer.auto.dealer
    c.loop-dealer.invariant c.in_ok-push_grids.ensures
