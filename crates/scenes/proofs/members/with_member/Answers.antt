use Rattle.std.proofs.Common.{◌≤◌, ◌^◌, ◌-◌, arith}
use Rattle.std.proofs.Math.Pow.{pow_mono}
use Rattle.scenes.proofs.members.with_member.Goals as goal

pub overflow_add-result : goal.overflow_add-result
overflow_add-result c =
    let few : c.args.member - 1 ≤ 29 = omega (arith, c.requires.member) in
    let small : 2 ^ (c.args.member - 1) ≤ 2 ^ 29 = pow_mono few in
    omega (arith, small, c.requires.lower)
