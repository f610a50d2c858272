-- The sizes that a command can make are those of committees.
use Rattle.std.proofs.Common.{◌≡◌, ℕ, ◌≤◌, true, arith}
use Rattle.std.proofs.lemmas.Bool.Decides.{nat_tests}
use Rattle.sizes.specs.Committees.{IsCommittee, is_size, is_bound}

pub committee_of : (n t : ℕ) → is_size n ≡ true → is_bound n t ≡ true → IsCommittee n t
committee_of n t size bound = record { some_bad = grind (arith, nat_tests); third = grind (arith, nat_tests); most = grind (arith, nat_tests) }

pub largest : (n : ℕ) → is_size n ≡ true → n ≤ 13
largest n is = grind (arith, nat_tests)

pub small_size : (n : ℕ) → is_size n ≡ true → n ≤ 15
small_size n is = omega (arith, largest n is)
