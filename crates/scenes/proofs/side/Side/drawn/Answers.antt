use Rattle.std.proofs.Common.{◌+◌}
use Rattle.scenes.proofs.Draws.{side_by_draws, two_steps}
use Rattle.scenes.proofs.side.Side.drawn.Goals as goal

pub returns-clause-side : goal.returns-clause-side
returns-clause-side c = λ number before e.
    side_by_draws number before c.args.committee.members c.args.committee.bound c.args.shareless c.draw-who.result c.draw-how.result c.drilled_by.result
    c.drilled_by.ensures
    (c.draw-who.ensures.drawn number before e)
    (c.draw-how.ensures.drawn number (before + 1) (c.draw-who.ensures.step number before e))

pub returns-clause-step : goal.returns-clause-step
returns-clause-step c = λ number before e.
    two_steps number before c.draw-how.new.self (c.draw-how.ensures.step number (before + 1) (c.draw-who.ensures.step number before e))
