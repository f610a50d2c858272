use Rattle.std.proofs.Common.{arith, ◌^◌, sym}
use Rattle.std.specs.Prelude.{None}
use Rattle.decimals.proofs.Numbers.{none_as, not_any, too_wide}
use Rattle.decimals.proofs.read_u32.Goals as goal

pub returns-in_err-n-clause-none : goal.returns-in_err-n-clause-none
returns-in_err-n-clause-none c =
    rw c.from_residual.ensures (none_as (2 ^ 32) c.args.word.now None (omega arith) (sym (not_any c.args.word.now (sym c.in_err-n.ensures))))

pub returns-then-n-gt4294967295-clause-none : goal.returns-then-n-gt4294967295-clause-none
returns-then-n-gt4294967295-clause-none c =
    none_as (2 ^ 32) c.args.word.now None (omega arith) (sym (too_wide c.args.word.now c.in_ok-n.n (sym c.in_ok-n.ensures) (omega (arith, c.if-n-gt4294967295.true))))
