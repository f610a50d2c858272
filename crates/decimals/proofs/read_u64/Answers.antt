use Rattle.std.proofs.Common.{arith, ◌^◌}
use Rattle.decimals.proofs.Numbers.{none_as}
use Rattle.decimals.proofs.read_u64.Goals as goal

pub returns-clause-none : goal.returns-clause-none
returns-clause-none c = none_as (2 ^ 64) c.args.word.now c.number.result (omega arith) c.number.ensures
