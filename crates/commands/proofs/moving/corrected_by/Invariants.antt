use Rattle.std.proofs.Common.{◌≡◌, drop}
use Rattle.commands.specs.MovePhase.{AreOpened, first_end}
use Rattle.commands.proofs.moving.corrected_by.Given as goal

abbrev pub invariant-loop-out : goal.invariant-loop-out
invariant-loop-out l = record {
  opened : AreOpened (drop l.out-index l.outs);
  so_far : first_end (drop l.out-index l.outs) ≡ first_end l.outs;
}
