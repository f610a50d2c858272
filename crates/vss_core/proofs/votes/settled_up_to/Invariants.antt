use Rattle.std.proofs.Common.{◌≡◌, ◌-◌}
use Rattle.sharing61.specs.Count.{everyone}
use Rattle.vss_core.specs.Complaints.{settled_here}
use Rattle.vss_core.proofs.votes.settled_up_to.Given as goal

abbrev pub invariant-loop-l : goal.invariant-loop-l
invariant-loop-l l = l.settled ≡ everyone (l.l - 1) (settled_here l.setting l.third l.hidden l.instance l.receiver)
