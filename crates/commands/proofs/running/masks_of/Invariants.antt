use Rattle.std.proofs.Common.{◌≡◌, ◌≤◌, ◌-◌}
use Rattle.turns.specs.Turns.{tabulate}
use Rattle.party_crew.specs.Phase.{round_mask}
use Rattle.commands.proofs.running.masks_of.Given as goal

abbrev pub invariant-loop-round : goal.invariant-loop-round
invariant-loop-round g l = record {
  low : 1 ≤ l.round;
  so_far : l.masks ≡ tabulate 0 (l.round - 1) (round_mask l.board);
}
