use Rattle.std.proofs.Common.{◌≡◌, ℕ, ◌<◌, [], length, get_or}
use Rattle.algebra61.specs.Polynomial.{poly}
use Rattle.poly61.specs.Points.{pairs, IsThrough}
use Rattle.viewshift.specs.Through.{shared_points}
use Rattle.viewshift.proofs.polynomials.polynomials_of.Given as goal

abbrev pub invariant-loop-lane : goal.invariant-loop-lane
invariant-loop-lane l = (length l.list ≡ l.lane) × ((lane : ℕ) → lane < l.lane → IsThrough (pairs (shared_points lane 1 l.shares)) (get_or l.list lane (poly [])))
