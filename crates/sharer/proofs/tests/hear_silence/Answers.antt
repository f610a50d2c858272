use Rattle.std.proofs.Common.{subst}
use Rattle.talk.specs.Shape.{Shape}
use Rattle.talk.specs.Hears.{Fits}
use Rattle.sharer.proofs.tests.hear_silence.Goals as goal

pub hear-requires : goal.hear-requires
hear-requires c = record {
  round = c.args.round;
  turn = c.requires;
  fits =
      subst (λ (s : Shape). Fits s c.args.sharer.now.seat c.args.round c.in_ok-heard.heard) c.setting.ensures
      (c.in_ok-heard.ensures c.args.sharer.now.seat c.args.round);
}
