use Rattle.std.proofs.Common.{◌≡◌, ◌+◌, ◌++◌, drop}
use Rattle.viewshift.specs.Through.{shared_points}
use Rattle.viewshift.proofs.polynomials.shared_points.Given as goal

abbrev pub invariant-loop-share : goal.invariant-loop-share
invariant-loop-share l = (l.member ≡ l.share-index + 1) × (l.list.items ++ shared_points l.lane l.member (drop l.share-index l.shares) ≡ shared_points l.lane 1 l.shares)
