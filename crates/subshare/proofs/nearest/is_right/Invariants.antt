use Rattle.std.proofs.Common.{◌≡◌, ◌+◌, drop}
use Rattle.algebra61.specs.Nearest.{wrong}
use Rattle.subshare.proofs.nearest.is_right.Given as goal

abbrev pub invariant-loop-value : goal.invariant-loop-value
invariant-loop-value l = (l.point ≡ l.value-index + 1) × (wrong l.poly.coeffs l.point (drop l.value-index l.values) ≡ wrong l.poly.coeffs 1 l.values)
