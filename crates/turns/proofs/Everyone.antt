-- Each of n seats is in the mask of all of them.
use Rattle.std.proofs.Common.{◌≡◌, ℕ, ◌-◌, ◌^◌, ◌≤◌, true, arith}
use Rattle.std.specs.Int.{bit_at}
use Rattle.std.proofs.lemmas.Bool.{eq-eqb}
use Rattle.std.proofs.lemmas.Nat.Bits.{bit_at_ones}
use Rattle.talk.specs.Sync.{has}

pub in_everyone : (n k : ℕ) → 1 ≤ k → k ≤ n → has (2 ^ n - 1) k ≡ true
in_everyone n k lo hi = eq-eqb (bit_at (2 ^ n - 1) (k - 1)) 1 (bit_at_ones n (k - 1) (omega (arith, lo, hi)))
