-- What the parity check says of vectors with few entries other than 0.
use Rattle.std.specs.Prelude.{◌≡◌, ℕ, ◌+◌, ◌-◌, ◌*◌, ◌<◌, ◌≤◌, List, length}
use Rattle.algebra61.specs.Field.{Fp, Prime, fe, zeroₚ, ◌*ₚ◌}
use Rattle.algebra61.specs.Poly.{eval}
use Rattle.checks61.specs.Checks.{sum_to, syndrome_of, HasZeroSyndrome, HasValues, entry, nonzero_to, IsErrorOf, difference_from, weight_at_zero}
use Rattle.checks61.specs.Word.{word_entry}

-- a syndrome has at most one error vector
abbrev pub OneError : Type 0
OneError =
    (size bound : ℕ) (syndrome error other : List Fp) → 3 * bound < size → size < Prime →
    IsErrorOf size bound syndrome error → IsErrorOf size bound syndrome other → error ≡ other

-- the syndrome is zero exactly where the entries are the values of a polynomial of degree at most the bound: first only
-- there
abbrev pub ZeroOnlyOfValues : Type 0
ZeroOnlyOfValues =
    (size bound : ℕ) (vector : ℕ → Fp) → size < Prime → HasZeroSyndrome size bound vector →
    (polynomial : List Fp) × HasValues size bound vector polynomial

-- then everywhere there
abbrev pub ZeroOfValues : Type 0
ZeroOfValues =
    (size bound : ℕ) (vector : ℕ → Fp) (polynomial : List Fp) → size < Prime → HasValues size bound vector polynomial →
    HasZeroSyndrome size bound vector

-- where a polynomial of degree at most the bound differs from a vector at no more points than the bound, the difference is
-- the error vector of the vector's syndrome
abbrev pub ErrorOfValues : Type 0
ErrorOfValues =
    (size bound : ℕ) (vector : ℕ → Fp) (polynomial : List Fp) → size < Prime →
    length polynomial ≤ bound + 1 → nonzero_to size (entry (difference_from size vector polynomial)) ≤ bound →
    IsErrorOf size bound (syndrome_of size (size - bound - 1) vector) (difference_from size vector polynomial)

-- and each error vector of a vector's syndrome is such a difference
abbrev pub ValuesOfError : Type 0
ValuesOfError =
    (size bound : ℕ) (vector : ℕ → Fp) (error : List Fp) → size < Prime → IsErrorOf size bound (syndrome_of size (size - bound - 1) vector) error →
    (polynomial : List Fp) × (length polynomial ≤ bound + 1) × (difference_from size vector polynomial ≡ error)

-- the weights give the value at 0 of each polynomial with at most n coefficients
abbrev pub WeighsAtZero : Type 0
WeighsAtZero =
    (n : ℕ) (polynomial : List Fp) → n < Prime → length polynomial ≤ n →
    sum_to n (λ point. weight_at_zero n point *ₚ eval polynomial (fe point)) ≡ eval polynomial zeroₚ

-- every list with at most as many values as there are points is the syndrome of a word
abbrev pub WordHasSyndrome : Type 0
WordHasSyndrome =
    (size rows : ℕ) (syndrome : List Fp) → size < Prime → rows ≤ size → length syndrome ≡ rows →
    syndrome_of size rows (word_entry size rows syndrome) ≡ syndrome
