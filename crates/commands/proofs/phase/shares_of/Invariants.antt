use Rattle.std.proofs.Common.{◌≡◌, ◌+◌, ◌++◌, drop}
use Rattle.commands.specs.Phase.{marked, AllDone, shares_in}
use Rattle.commands.proofs.phase.shares_of.Given as goal

abbrev pub invariant-loop-mind : goal.invariant-loop-mind
invariant-loop-mind g l = record {
  at : l.seat ≡ l.mind-index + 1;
  so_far : l.shares.items ++ shares_in g.M.Keeps.lanes (marked l.down) l.seat (drop l.mind-index l.minds) ≡ shares_in g.M.Keeps.lanes (marked l.down) 1 l.minds;
  done : AllDone g.M.Party.is_done (marked l.down) l.seat (drop l.mind-index l.minds);
}
