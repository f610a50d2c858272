use Rattle.std.proofs.Common.{◌≡◌, ◌-◌, All}
use Rattle.bivar61.specs.Grids.{IsGrid}
use Rattle.chance61.specs.Draws.{grid_drawn, five_grids_drawn}
use Rattle.chance61.proofs.DrawLemmas.{Turns}
use Rattle.chance61.proofs.Chance.draw_grids.Given as goal

abbrev pub invariant-loop-lane : goal.invariant-loop-lane
invariant-loop-lane l =
    (l.ahead.seed ≡ l.self.seed)
    × Turns (grid_drawn l.d l.self.seed) (5 - l._lane) l.ahead.taken l.grids (five_grids_drawn l.d l.self.seed l.self.taken)
    × All (IsGrid l.d) l.grids
