use Rattle.std.proofs.Common.{inr, refl, arith}
use Rattle.talk.proofs.setting.Setting.moving.Goals as goal

pub invariant_of-result : goal.invariant_of-result
invariant_of-result c =
    record {
      receivers = (omega arith, omega arith);
      dealers = (omega arith, omega arith);
      some_bad = omega arith;
      third = omega arith;
      degree = omega arith;
      committees = inr (c.args.bound, record { behind = refl; some_bad = omega arith; third = omega arith; checks = omega arith });
    }
