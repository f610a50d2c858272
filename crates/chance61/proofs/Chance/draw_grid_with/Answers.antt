use Rattle.std.proofs.Common.{◌≡◌, ◌+◌, ◌*◌, ◌-◌, ◌∷◌, length, ap, ◌∙◌}
use Rattle.bivar61.specs.Grids.{grid_of}
use Rattle.chance61.specs.Draws.{elements_drawn, grid_drawn_with}
use Rattle.chance61.proofs.DrawLemmas.{after_constant, with_constant}
use Rattle.chance61.proofs.Chance.draw_grid_with.Goals as goal

elements : (c : goal.After-as_slice) →
    c.as_slice.result.now ≡ c.args.constant ∷ (elements_drawn ((c.args.degree + 1) * (c.args.degree + 1) - 1) c.args.self.now.seed c.args.self.now.taken).0
elements c =
    c.as_slice.ensures
    ∙ after_constant c.new-elements.result c.push.new.self _ c.in_ok-elements.elements c.args.constant c.new-elements.ensures c.in_ok-push.ensures c.in_ok-elements.ensures.elements

pub from_elements-requires-clause-size : goal.from_elements-requires-clause-size
from_elements-requires-clause-size c = ap length (elements c) ∙ with_constant c.args.degree c.args.constant c.args.self.now.seed c.args.self.now.taken

pub returns-clause-grid : goal.returns-clause-grid
unfolding grid_drawn_with
returns-clause-grid c =
    c.in_ok-made.ensures.grid
    ∙ ap (grid_of c.args.degree) (c.as_slice.ensures
    ∙ after_constant c.new-elements.result c.push.new.self _ c.in_ok-elements.elements c.args.constant c.new-elements.ensures c.in_ok-push.ensures c.in_ok-elements.ensures.elements)

pub returns-clause-after : goal.returns-clause-after
unfolding grid_drawn_with
returns-clause-after c = c.in_ok-elements.ensures.after
