use Rattle.std.proofs.Common.{◌≡◌}
use Rattle.plays.specs.Stage.{IsTurn}
use Rattle.sharer.proofs.tests.hear_silences.Given as goal

abbrev pub invariant-loop-round : goal.invariant-loop-round
invariant-loop-round l = record {
  speaks : IsTurn l.round l.sharer.stage;
  shape : l.sharer.shape ≡ l.fn.sharer.shape;
  seat : l.sharer.seat ≡ l.fn.sharer.seat;
}
