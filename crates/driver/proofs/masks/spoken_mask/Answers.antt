use Rattle.std.proofs.Common.{arith}
use Rattle.driver.proofs.Spoken.{spoken_from}
use Rattle.driver.proofs.masks.spoken_mask.Goals as goal

pub returns-clause-spoken : goal.returns-clause-spoken
returns-clause-spoken c =
    spoken_from c.args.before c.loop-word.mask 1 c.args.words.now (λ k lt. c.loop-word.invariant.told k (omega (arith, lt)))
