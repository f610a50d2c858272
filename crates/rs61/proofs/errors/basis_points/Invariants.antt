use Rattle.std.proofs.Common.{◌≡◌, map}
use Rattle.std.specs.List.{range_with_len}
use Rattle.rs61.specs.Errors.{basis_point}
use Rattle.rs61.proofs.errors.basis_points.Given as goal

abbrev pub invariant-loop-k : goal.invariant-loop-k
invariant-loop-k l = l.list.items ≡ map (basis_point l.peak) (range_with_len 1 l.k)
