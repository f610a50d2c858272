use Rattle.std.proofs.Common.{sym, ◌≤◌, length, arith}
use Rattle.std.proofs.lemmas.List.{get_or_past}
use Rattle.algebra61.specs.Field.{zeroₚ}
use Rattle.poly61.proofs.coeff_of.Goals as goal

pub returns-else-k-len : goal.returns-else-k-len
returns-else-k-len c =
    let past : length c.args.list.now ≤ c.args.k = omega (arith, c.len.ensures, c.if-k-len.false) in
    sym (get_or_past c.args.list.now c.args.k zeroₚ past)
