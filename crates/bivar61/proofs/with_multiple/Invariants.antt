use Rattle.std.proofs.Common.{◌≡◌, ◌++◌, drop}
use Rattle.bivar61.specs.Grids.{multiple_added}
use Rattle.bivar61.proofs.with_multiple.Given as goal

abbrev pub invariant-loop-b : goal.invariant-loop-b
invariant-loop-b l = l.sums ++ multiple_added l.factor l.b (drop l.b l.list) l.other.coeffs ≡ multiple_added l.factor 0 l.list l.other.coeffs
