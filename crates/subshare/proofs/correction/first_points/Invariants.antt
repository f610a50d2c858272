use Rattle.std.proofs.Common.{◌≡◌, map}
use Rattle.std.specs.List.{range_with_len}
use Rattle.algebra61.specs.Field.{fe}
use Rattle.subshare.proofs.correction.first_points.Given as goal

abbrev pub invariant-loop-index : goal.invariant-loop-index
invariant-loop-index l = l.list.items ≡ map fe (range_with_len 1 l.index)
