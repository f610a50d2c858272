use Rattle.std.proofs.Common.{◌≡◌, length, All}
use Rattle.bivar61.specs.Grids.{IsGrid}
use Rattle.moveshare.proofs.tests.grids.Given as goal

abbrev pub invariant-loop-lane : goal.invariant-loop-lane
invariant-loop-lane l = record {
  count : length l.list ≡ l.lane;
  degree : All (IsGrid 1) l.list;
}
