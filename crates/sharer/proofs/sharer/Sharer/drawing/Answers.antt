use Rattle.std.proofs.Common.{ℕ, subst}
use Rattle.vss_core.specs.States.{FiveGrids}
use Rattle.sharer.proofs.Draws.{five_of}
use Rattle.sharer.proofs.sharer.Sharer.drawing.Goals as goal

pub dealing-requires-clause-grids : goal.dealing-requires-clause-grids
dealing-requires-clause-grids c =
    subst (λ (d : ℕ). FiveGrids d c.in_ok-grids.grids) c.degree.ensures.is
    (five_of c.degree.result c.args.chance.now.seed c.args.chance.now.taken c.in_ok-grids.grids c.in_ok-grids.ensures.grids c.in_ok-grids.ensures.shapes)
