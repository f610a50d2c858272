use Rattle.std.proofs.Common.{ℕ, ◌<◌}
use Rattle.pairrings.specs.Records.{SameEnds, IsInOrder}
use Rattle.pairrings.proofs.settling.finish.Given as goal

abbrev pub invariant-loop-from : goal.invariant-loop-from
invariant-loop-from g l = SameEnds l.initial.ends.items l.ends.items × ((i j : ℕ) → i < l.from → j < g.row.S → IsInOrder l.initial.ends.items i j)
