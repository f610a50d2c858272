use Rattle.std.proofs.Common.{◌≡◌, ◌-◌}
use Rattle.pairrings.specs.Ends.{got_from, OnlyGot, SameRings}
use Rattle.pairrings.proofs.ends.End.wait_recv.Given as goal

abbrev pub invariant-loop : goal.invariant-loop
invariant-loop g l =
    (goal.iterator-loop g).can_next l.iterator' × (goal.iterator-loop g).is_finite l.iterator'
    × OnlyGot (l.sender - 1) l.fn.self l.self × SameRings l.fn.self l.self × (got_from l.self (l.sender - 1) ≡ got_from l.fn.self (l.sender - 1))
