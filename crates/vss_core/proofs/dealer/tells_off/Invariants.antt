use Rattle.std.proofs.Common.{◌≡◌, ◌-◌}
use Rattle.sharing61.specs.Count.{anyone}
use Rattle.sharing61.specs.Rules.{off_grid}
use Rattle.plays.specs.Seat.{heard_complaint}
use Rattle.vss_core.proofs.dealer.tells_off.Given as goal

abbrev pub invariant-loop-k : goal.invariant-loop-k
invariant-loop-k l = l.off ≡ anyone (l.k - 1) (λ k. off_grid l.grid l.receiver k (heard_complaint l.setting l.posts l.instance l.receiver k))
