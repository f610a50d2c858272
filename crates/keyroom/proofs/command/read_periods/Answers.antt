use Rattle.std.proofs.Common.{◌≡◌, arith, rules}
use Rattle.std.specs.Prelude.{decimal}
use Rattle.keyroom.proofs.Makings.{same_number}
use Rattle.keyroom.proofs.command.read_periods.Goals as goal
use Rattle.keyroom.proofs.command.read_periods.Goals.{else-periods-ge1-via-then-periods-ge1+else-periods-le64, else-periods-ge1-via-else-periods-ge1}

pub returns-else-periods-ge1-clause-none : goal.returns-else-periods-ge1-clause-none
returns-else-periods-ge1-clause-none c periods from to is =
    let spelled : c.args.word.now ≡ decimal c.in_ok-periods.periods = search rules in
    let same : c.in_ok-periods.periods ≡ periods = same_number c.args.word.now c.in_ok-periods.periods periods (omega arith) (omega (arith, to)) spelled is in
    elim c.else-periods-ge1.branch [
      | else-periods-ge1-via-then-periods-ge1+else-periods-le64 w ↦ omega (arith, same, to, w.if-periods-le64.false)
      | else-periods-ge1-via-else-periods-ge1 w ↦ omega (arith, same, from, w.if-periods-ge1.false)
    ]
