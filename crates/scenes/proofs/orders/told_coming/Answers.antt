use Rattle.std.proofs.Common.{◌≤◌, arith}
use Rattle.scenes.proofs.Sides.{drilled_small}
use Rattle.scenes.proofs.orders.told_coming.Goals as goal

pub overflow_add-result : goal.overflow_add-result
overflow_add-result c =
    let small : c.in_ok-member.member ≤ 13 = drilled_small c.args.side.now c.in_ok-member.member c.requires.side c.in_ok-member.was in
    omega (arith, small, c.requires.shift)
