use Rattle.std.proofs.Common.{◌≡◌, ◌+◌, drop, take}
use Rattle.commands.specs.Phase.{marked, AllDone}
use Rattle.commands.specs.MovePhase.{IsEnd, AllCome}
use Rattle.commands.proofs.moving_phase.outs_of.Given as goal

abbrev pub invariant-loop-mind : goal.invariant-loop-mind
invariant-loop-mind g l = record {
  at : l.member ≡ l.mind-index + 1;
  done : AllDone IsEnd (marked l.down) l.member (drop l.mind-index l.minds);
  so_far : AllCome (marked l.down) 1 (take l.mind-index l.minds) l.outs.items;
}
