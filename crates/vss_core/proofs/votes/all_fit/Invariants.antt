use Rattle.std.proofs.Common.{◌≡◌, ◌-◌}
use Rattle.sharing61.specs.Count.{everyone}
use Rattle.sharing61.specs.Rules.{fits}
use Rattle.plays.specs.Read.{shown_in}
use Rattle.vss_core.proofs.votes.all_fit.Given as goal

abbrev pub invariant-loop-k : goal.invariant-loop-k
invariant-loop-k l = l.fit ≡ everyone (l.k - 1) (λ k. fits l.me l.pair k (shown_in l.lane k l.reveals))
