use Rattle.std.proofs.Common.{ℕ, ◌<◌}
use Rattle.pairrings.specs.Records.{SameEnds, IsInOrder}
use Rattle.pairrings.proofs.settling.settle_sender.Given as goal

abbrev pub invariant-loop-to : goal.invariant-loop-to
invariant-loop-to g l = SameEnds l.initial.ends l.ends × ((j : ℕ) → j < l.to → IsInOrder l.initial.ends l.from j)
