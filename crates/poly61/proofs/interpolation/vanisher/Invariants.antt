use Rattle.std.proofs.Common.{◌≡◌, ◌∷◌, ◌++◌, drop}
use Rattle.algebra61.specs.Field.{zeroₚ, oneₚ}
use Rattle.poly61.proofs.Newton.{roots}
use Rattle.poly61.proofs.interpolation.vanisher.Given as goal

abbrev pub invariant-loop-i : goal.invariant-loop-i
invariant-loop-i l = l.points.items ++ roots (drop l.i-index l.set) ≡ (zeroₚ, oneₚ) ∷ roots l.set
