use Rattle.std.proofs.Common.{◌≡◌, take}
use Rattle.algebra61.specs.Poly.{scale_list}
use Rattle.poly61.proofs.Poly.scale.Given as goal

abbrev pub invariant-loop-k : goal.invariant-loop-k
invariant-loop-k l = l.multiples ≡ take l.k (scale_list l.fn.factor l.self.coeffs)
