use Rattle.std.proofs.Common.{◌≡◌, drop}
use Rattle.algebra61.specs.Field.{◌*ₚ◌}
use Rattle.algebra61.specs.Poly.{eval}
use Rattle.algebra61.proofs.Dual.{others}
use Rattle.algebra61.proofs.Interpolate.{vanish}
use Rattle.poly61.proofs.weights.differences.Given as goal

abbrev pub invariant-loop-z : goal.invariant-loop-z
invariant-loop-z l = l.product *ₚ eval (vanish (others l.x (drop l.z-index l.xs))) l.y ≡ eval (vanish (others l.x l.xs)) l.y
