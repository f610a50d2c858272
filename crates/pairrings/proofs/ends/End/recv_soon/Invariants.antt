use Rattle.std.proofs.Common.{◌≡◌, ◌-◌}
use Rattle.pairrings.specs.Ends.{got_from, OnlyGot, SameRings}
use Rattle.pairrings.proofs.ends.End.recv_soon.Given as goal

abbrev pub invariant-loop-look : goal.invariant-loop-look
invariant-loop-look g l =
    OnlyGot (l.sender - 1) l.fn.self l.self × SameRings l.fn.self l.self × (got_from l.self (l.sender - 1) ≡ got_from l.fn.self (l.sender - 1))
