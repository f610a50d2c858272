use Rattle.std.proofs.Common.{◌≡◌, map}
use Rattle.plays.specs.Said.{places}
use Rattle.plays.specs.Seat.{keeps}
use Rattle.vss_core.proofs.revealed.kept_pairs.Given as goal

abbrev pub invariant-loop-i : goal.invariant-loop-i
invariant-loop-i l = l.kept ≡ map (keeps l.setting l.me l.pairs l.fourth l.fifth) (places l.i)
