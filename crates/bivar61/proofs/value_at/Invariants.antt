use Rattle.std.proofs.Common.{◌≡◌, ◌≤◌, length, drop}
use Rattle.algebra61.specs.Poly.{eval}
use Rattle.bivar61.proofs.value_at.Given as goal

abbrev pub invariant-loop-k : goal.invariant-loop-k
invariant-loop-k l = (l.k ≤ length l.coefficients) × (l.value ≡ eval (drop l.k l.coefficients) l.x)

abbrev pub decreases-loop-k : goal.decreases-loop-k
decreases-loop-k l = l.k
