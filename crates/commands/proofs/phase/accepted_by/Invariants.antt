use Rattle.std.proofs.Common.{◌≡◌, ◌+◌, drop}
use Rattle.commands.specs.Phase.{marked, AllDone, accepted_first}
use Rattle.commands.proofs.phase.accepted_by.Given as goal

abbrev pub invariant-loop-mind : goal.invariant-loop-mind
invariant-loop-mind g l = record {
  at : l.seat ≡ l.mind-index + 1;
  so_far : accepted_first g.M.Party.count (marked l.down) l.seat (drop l.mind-index l.minds) ≡ accepted_first g.M.Party.count (marked l.down) 1 l.minds;
  done : AllDone g.M.Party.is_done (marked l.down) l.seat (drop l.mind-index l.minds);
}
