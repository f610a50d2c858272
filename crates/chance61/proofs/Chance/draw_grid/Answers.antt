use Rattle.std.proofs.Common.{◌*◌, ◌+◌, length, ap, ◌∙◌}
use Rattle.bivar61.specs.Grids.{grid_of}
use Rattle.chance61.specs.Draws.{Source, elements_drawn, grid_drawn}
use Rattle.chance61.proofs.DrawLemmas.{length-elements_drawn, after_none}
use Rattle.chance61.proofs.Chance.draw_grid.Goals as goal

pub from_elements-requires-clause-size : goal.from_elements-requires-clause-size
from_elements-requires-clause-size c =
    ap length (c.as_slice.ensures ∙ after_none c.new.result _ c.in_ok-elements.elements c.new.ensures c.in_ok-elements.ensures.elements) ∙ length-elements_drawn _ _ _

pub returns-clause-grid : goal.returns-clause-grid
unfolding grid_drawn
returns-clause-grid c =
    c.in_ok-grid.ensures.grid
    ∙ ap (grid_of c.args.d) (c.as_slice.ensures ∙ after_none c.new.result _ c.in_ok-elements.elements c.new.ensures c.in_ok-elements.ensures.elements
    ∙ ap (λ (s : Source). (elements_drawn ((c.args.d + 1) * (c.args.d + 1)) s.seed s.taken).0) c.in_ok-ahead.ensures)

pub returns-clause-after : goal.returns-clause-after
unfolding grid_drawn
returns-clause-after c =
    c.in_ok-elements.ensures.after
    ∙ ap (λ (s : Source). let r : Source = record { seed = s.seed; taken = (elements_drawn ((c.args.d + 1) * (c.args.d + 1)) s.seed s.taken).1 } in r) c.in_ok-ahead.ensures
