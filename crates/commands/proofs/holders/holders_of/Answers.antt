use Rattle.std.proofs.Common.{ℕ, ◌-◌, ◌^◌, ◌<◌, ◌≤◌, sym, subst, arith}
use Rattle.std.proofs.Math.Pow.{pow_mono}
use Rattle.commands.specs.Phase.{marked}
use Rattle.commands.proofs.Links.{holders_below}
use Rattle.commands.proofs.holders.holders_of.Goals as goal

pub overflow_add-holders : goal.overflow_add-holders
overflow_add-holders c =
    let place : ℕ = c.loop-member.member - 1 in
    let before : c.loop-member.holders < 2 ^ place = subst (λ (n : ℕ). n < 2 ^ place) (sym c.loop-member.invariant) (holders_below (marked c.args.down.now) place) in
    let few : place ≤ 14 = omega (arith, c.requires, c.loop-member-test.true) in
    let small : 2 ^ place ≤ 2 ^ 14 = pow_mono few in
    omega (arith, before, small)
