use Rattle.std.proofs.Common.{◌≡◌}
use Rattle.pairrings.specs.Laying.{LaidBelow}
use Rattle.pairrings.proofs.laying.lay.Given as goal

abbrev pub invariant-loop-sender : goal.invariant-loop-sender
invariant-loop-sender g l = LaidBelow l.rounds g.row.S l._sender l.heads.items l.tails.items
