use Rattle.std.proofs.Common.{◌≡◌, length}
use Rattle.poly61.proofs.Coefficients.{Parts}
use Rattle.poly61.proofs.Poly.div_rem.Given as goal

abbrev pub invariant-loop-len : goal.invariant-loop-len
invariant-loop-len l = (l.len ≡ length l.rest.coeffs) × Parts l.self l.other l.quotient l.rest

abbrev pub decreases-loop-len : goal.decreases-loop-len
decreases-loop-len l = l.len
