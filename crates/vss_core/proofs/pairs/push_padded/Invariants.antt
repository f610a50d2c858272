use Rattle.std.proofs.Common.{◌≡◌, ◌++◌}
use Rattle.plays.specs.Said.{padded}
use Rattle.vss_core.proofs.pairs.push_padded.Given as goal

abbrev pub invariant-loop-k : goal.invariant-loop-k
invariant-loop-k l = l.list ≡ l.fn.list ++ padded l.k l.polynomial.coeffs
