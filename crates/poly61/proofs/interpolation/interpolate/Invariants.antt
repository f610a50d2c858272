use Rattle.std.proofs.Common.{◌≤◌, length, drop}
use Rattle.poly61.specs.Points.{pairs}
use Rattle.poly61.proofs.Newton.{Built}
use Rattle.poly61.proofs.interpolation.interpolate.Given as goal

abbrev pub invariant-loop-k : goal.invariant-loop-k
invariant-loop-k l = (l.k ≤ length l.list) × Built (pairs (drop l.k l.list)) l.found.coeffs l.product.coeffs

abbrev pub decreases-loop-k : goal.decreases-loop-k
decreases-loop-k l = l.k
