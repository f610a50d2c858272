use Rattle.std.proofs.Common.{◌≡◌, ◌-◌}
use Rattle.sharing61.specs.Count.{everyone}
use Rattle.vss_core.specs.Complaints.{settled_here}
use Rattle.vss_core.proofs.votes.each_two_settled.Given as goal

abbrev pub invariant-loop-k : goal.invariant-loop-k
invariant-loop-k l = l.settled ≡ everyone (l.k - 1) (λ k. everyone k (settled_here l.setting l.third l.hidden l.instance k))
