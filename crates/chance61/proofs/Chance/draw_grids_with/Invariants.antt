use Rattle.std.proofs.Common.{◌≡◌, drop}
use Rattle.chance61.specs.Draws.{grid_drawn_with, five_grids_drawn_with}
use Rattle.chance61.proofs.DrawLemmas.{TurnsFor}
use Rattle.chance61.proofs.Chance.draw_grids_with.Given as goal

abbrev pub invariant-loop-constant : goal.invariant-loop-constant
invariant-loop-constant l =
    (l.ahead.seed ≡ l.self.seed)
    × TurnsFor (grid_drawn_with l.degree l.self.seed) (drop l.constant-index l.constants) l.ahead.taken l.grids (five_grids_drawn_with l.degree l.constants l.self.seed l.self.taken)
