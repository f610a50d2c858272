use Rattle.std.proofs.Common.{◌≡◌, take}
use Rattle.algebra61.specs.Poly.{add_list}
use Rattle.poly61.proofs.Poly.plus.Given as goal

abbrev pub invariant-loop-k : goal.invariant-loop-k
invariant-loop-k l = l.sums ≡ take l.k (add_list l.self.coeffs l.other.coeffs)
