use Rattle.std.proofs.Common.{rules, inr}
use Rattle.decimals.proofs.Numbers.{too_great}
use Rattle.decimals.proofs.digits_in.Goals as goal

pub returns-in_err-number : goal.returns-in_err-number
returns-in_err-number c = rw c.from_residual.ensures (inr (too_great c.args.word.now c.loop-c.c-index c.loop-c.number (search rules) c.loop-c.invariant.number c.in_err-number.ensures))
