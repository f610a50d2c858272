use Rattle.std.proofs.Common.{◌≡◌, ◌+◌, ◌++◌, ◌≤◌, length, drop}
use Rattle.rs61.specs.Decoding.{present_pairs}
use Rattle.subshare.proofs.nearest.first_present.Given as goal

abbrev pub invariant-loop-value : goal.invariant-loop-value
invariant-loop-value l = (l.point ≡ l.value-index + 1) × (length l.list.items ≤ l.count) × (l.list.items ++ present_pairs l.point (drop l.value-index l.values) ≡ present_pairs 1 l.values)
