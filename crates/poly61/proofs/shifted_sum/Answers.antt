use Rattle.std.proofs.Common.{◌≡◌, max, ◌-◌, length, arith}
use Rattle.poly61.proofs.Lists.{shift_first, shift_next, shift_end}
use Rattle.poly61.proofs.shifted_sum.Goals as goal

pub loop-k-init : goal.loop-k-init
loop-k-init c = shift_first c.args.factor c.args.list.now c.args.sum.now _ _ _ _ c.new-sums.ensures c.coeff_of.ensures c.mul.ensures c.in_ok-push.ensures

pub loop-k-preserved : goal.loop-k-preserved
loop-k-preserved c =
    let n : c.max-more.result ≡ max (length c.args.list.now - 1) (length c.args.sum.now) = omega (arith, c.max-more.ensures, c.saturating_sub.ensures, c.len.ensures, c.len-2.ensures) in
    shift_next c.args.factor c.args.list.now c.args.sum.now _ _ c.loop-k.k _ _ _ _ _ c.loop-k-test.true n c.loop-k.invariant
    c.coeff_of-in-loop-k.ensures c.coeff_of-in-loop-k-2.ensures c.mul-in-loop-k.ensures c.add.ensures c.in_ok-push-2.ensures

pub returns : goal.returns
returns c =
    let n : c.max-more.result ≡ max (length c.args.list.now - 1) (length c.args.sum.now) = omega (arith, c.max-more.ensures, c.saturating_sub.ensures, c.len.ensures, c.len-2.ensures) in
    shift_end c.args.factor c.args.list.now c.args.sum.now _ c.loop-k.k _ c.loop-k-test.false n c.loop-k.invariant
