-- Inverses. The element whose product with a is 1, and 0 for 0.
use Rattle.std.proofs.Common.{inl, inr, le_refl}
use Rattle.std.proofs.lemmas.Bool.{cases_lt}
use Rattle.prime61.proofs.Cong.{inverse_below}
use Rattle.prime61.proofs.Prime.{prime_p}
use Rattle.algebra61.specs.Field.{Fp, fe, zeroₚ}

unfoldable pub invₚ : Fp → Fp
invₚ a =
    elim (cases_lt 0 a.num) [
      | inl pos ↦ fe (inverse_below 2305843009213693950 prime_p a.num a.num (le_refl a.num) pos a.below).0
      | inr none_left ↦ zeroₚ
    ]
