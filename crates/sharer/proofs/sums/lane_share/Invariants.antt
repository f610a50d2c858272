use Rattle.std.proofs.Common.{◌≡◌}
use Rattle.members.specs.Shares.{share_sum}
use Rattle.sharer.proofs.sums.lane_share.Given as goal

abbrev pub invariant-loop-i : goal.invariant-loop-i
invariant-loop-i l = l.sum ≡ share_sum l.i l.done.kept l.lane
