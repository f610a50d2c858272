use Rattle.std.proofs.Common.{◌≡◌}
use Rattle.sharing61.specs.Rules.{at_point}
use Rattle.plays.specs.Said.{cross_list}
use Rattle.plays.specs.Seat.{pair_at}
use Rattle.vss_core.proofs.dealt.cross_points.Given as goal

abbrev pub invariant-loop-i : goal.invariant-loop-i
invariant-loop-i l = l.list ≡ cross_list l.i (λ i. at_point (pair_at l.pairs i) l.receiver)
