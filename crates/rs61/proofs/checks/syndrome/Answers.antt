use Rattle.std.proofs.Common.{◌≡◌, ◌+◌, length, ap, ◌∙◌, arith}
use Rattle.checks61.specs.Checks.{check_of, entry}
use Rattle.rs61.proofs.ErrorLoops.{more_from}
use Rattle.rs61.proofs.checks.syndrome.Goals as goal

pub loop-row-preserved : goal.loop-row-preserved
loop-row-preserved c =
    let n = length c.args.values.now in
    let e : c.loop-row.row ≡ 0 + c.loop-row.row = omega arith in
    more_from (λ m. check_of n m (entry c.args.values.now)) 0 c.loop-row.row c.loop-row.list c.push.new.self c.check_value.result c.loop-row.invariant c.in_ok-push.ensures
    (c.check_value.ensures ∙ ap (λ m. check_of n m (entry c.args.values.now)) e)
