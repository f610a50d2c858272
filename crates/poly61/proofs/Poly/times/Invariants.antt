use Rattle.std.proofs.Common.{◌≡◌, ◌≤◌, length, drop}
use Rattle.algebra61.specs.Poly.{mul_list}
use Rattle.poly61.proofs.Poly.times.Given as goal

abbrev pub invariant-loop-k : goal.invariant-loop-k
invariant-loop-k l = (l.k ≤ length l.self-inside.list) × (l.product ≡ mul_list (drop l.k l.self-inside.list) l.other-inside.list)

abbrev pub decreases-loop-k : goal.decreases-loop-k
decreases-loop-k l = l.k
