use Rattle.std.proofs.Common.{◌≡◌, arith}
use Rattle.scenes.specs.Numbers.{number_after}
use Rattle.scenes.proofs.Draws.{drawn_is, stepped}
use Rattle.scenes.proofs.numbers.Numbers.draw.Goals as goal

pub returns-clause-step : goal.returns-clause-step
returns-clause-step c = λ number place e.
    let state : c.self.inside.state ≡ number_after number place = grind (arith, e, c.self.view_is) in
    stepped number place c.self.inside.state state

pub returns-clause-drawn : goal.returns-clause-drawn
returns-clause-drawn c = λ number place e.
    let state : c.self.inside.state ≡ number_after number place = grind (arith, e, c.self.view_is) in
    drawn_is number place c.self.inside.state state
