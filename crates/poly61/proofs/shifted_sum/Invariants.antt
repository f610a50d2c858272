use Rattle.std.proofs.Common.{◌≡◌, ◌+◌, ◌∷◌, take}
use Rattle.algebra61.specs.Field.{zeroₚ}
use Rattle.algebra61.specs.Poly.{add_list, scale_list}
use Rattle.poly61.proofs.shifted_sum.Given as goal

abbrev pub invariant-loop-k : goal.invariant-loop-k
invariant-loop-k l = l.sums ≡ take (l.k + 1) (add_list (scale_list l.fn.factor l.list) (zeroₚ ∷ l.sum))
