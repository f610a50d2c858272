use Rattle.std.proofs.Common.{◌≡◌, ℕ, ◌-◌, ◌^◌, ◌<◌, subst, arith}
use Rattle.drillbook.proofs.drill.Drill.named.Goals as goal

below : (mask seat : ℕ) → mask < 2 ^ (seat - 1) → seat ≡ 31 → mask < 2 ^ 30
below mask seat lt e =
    let at : seat - 1 ≡ 30 = omega (arith, e) in
    subst (λ (k : ℕ). mask < 2 ^ k) at lt

pub returns-clause-mask : goal.returns-clause-mask
returns-clause-mask c = below c.loop-seat.mask c.loop-seat.seat c.loop-seat.invariant.below (omega arith)
