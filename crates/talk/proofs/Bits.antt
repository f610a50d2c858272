-- Bits of a mask.
use Rattle.std.proofs.Common.{◌≡◌, ◌≢◌, ℕ, ◌+◌, ◌-◌, ◌*◌, ◌^◌, ◌%◌, ◌<◌, true, false, eqb, ap, arith, w32, bit_or, subst, sym, ◌∙◌}
use Rattle.std.specs.Int.{bit_at}
use Rattle.std.proofs.Math.Nat.{div-eq_of_lt, mod-eq_of_lt}
use Rattle.std.proofs.Math.Pow.{pow-lt}
use Rattle.std.proofs.lemmas.Nat.{or_lt}
use Rattle.std.proofs.lemmas.Nat.Bits.{bit_at_set_same, bit_at_set_other}
use Rattle.talk.specs.Sync.{has}

-- a number below 2 ^ k has no bit k
pub no_bit : (n k : ℕ) → n < 2 ^ k → bit_at n k ≡ 0
no_bit n k lt = ap (λ q. q % 2) (div-eq_of_lt lt)

pub no_seat : (mask seat : ℕ) → mask < 2 ^ (seat - 1) → has mask seat ≡ false
no_seat mask seat lt = ap (λ b. eqb b 1) (no_bit mask (seat - 1) lt)

-- a seat is put into a mask of lower seats
set_number : (p : ℕ) → p < 30 → 1 * 2 ^ p % 2 ^ 32 ≡ 2 ^ p
set_number p lt =
    let e : 1 * 2 ^ p ≡ 2 ^ p = omega arith in
    let below : 2 ^ p < 2 ^ 32 = pow-lt {i = p} {j = 32} (omega (arith, lt)) in
    ap (λ n. n % 2 ^ 32) e ∙ mod-eq_of_lt below

pub set_below : (mask p seat : ℕ) → p < 30 → seat ≡ p + 1 → mask < 2 ^ p → bit_or mask (1 * 2 ^ p % 2 ^ 32) < 2 ^ seat
set_below mask p seat lt e m =
    let up : 2 ^ p < 2 ^ (p + 1) = pow-lt {i = p} {j = p + 1} (omega arith) in
    let n : 1 * 2 ^ p % 2 ^ 32 < 2 ^ (p + 1) = subst (λ (x : ℕ). x < 2 ^ (p + 1)) (sym (set_number p lt)) up in
    subst (λ (x : ℕ). bit_or mask (1 * 2 ^ p % 2 ^ 32) < 2 ^ x) (sym e) (or_lt (p + 1) mask (1 * 2 ^ p % 2 ^ 32) (omega (arith, up, m)) n)

pub set_own : (mask seat : ℕ) → seat - 1 < 30 → has (bit_or mask (1 * 2 ^ (seat - 1) % 2 ^ 32)) seat ≡ true
set_own mask seat lt = ap (λ b. eqb b 1) (bit_at_set_same w32 mask (seat - 1) (omega (arith, lt)))

pub set_other : (mask seat k : ℕ) → seat - 1 < 30 → k - 1 ≢ seat - 1 → has (bit_or mask (1 * 2 ^ (seat - 1) % 2 ^ 32)) k ≡ has mask k
set_other mask seat k lt ne = ap (λ b. eqb b 1) (bit_at_set_other w32 mask (seat - 1) (omega (arith, lt)) (k - 1) ne)
