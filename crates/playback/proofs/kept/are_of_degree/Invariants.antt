use Rattle.std.proofs.Common.{All, take}
use Rattle.bivar61.specs.Grids.{IsGrid}
use Rattle.playback.proofs.kept.are_of_degree.Given as goal

abbrev pub invariant-loop-grid : goal.invariant-loop-grid
invariant-loop-grid l = All (IsGrid l.degree) (take l.grid-index l.grids)
