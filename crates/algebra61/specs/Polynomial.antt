-- Polynomials: a coefficient list without zeros at its end.
use Rattle.std.specs.Prelude.{◌≡◌, List}
use Rattle.std.specs.Coded.{Coded, Coded-set, code_by, coded_list}
use Rattle.std.proofs.Common.{subst, ap}
use Rattle.algebra61.specs.Field.{Fp, fp_code}
use Rattle.algebra61.specs.Trim.{trim, trim-trim}

-- a list of coefficients, the constant first, and the proof that its last is not 0
pub record Polynomial : Type 0 where
  pub coeffs : List Fp
  pub trimmed : trim coeffs ≡ coeffs

-- the polynomial of a list
unfoldable pub poly : List Fp → Polynomial
poly p = record { coeffs = trim p; trimmed = trim-trim p }

-- two polynomials with one coefficient list are one polynomial
pub same_coeffs : (p q : Polynomial) → p.coeffs ≡ q.coeffs → p ≡ q
same_coeffs p q e =
    let at : (l : List Fp) → trim l ≡ l → Polynomial = λ l h. record { coeffs = l; trimmed = h } in
    subst (λ l. (h : trim l ≡ l) → p ≡ at l h) e (λ h. ap (at p.coeffs) (Coded-set (coded_list fp_code) _ _ p.trimmed h)) q.trimmed

pub poly-coeffs : (p : Polynomial) → poly p.coeffs ≡ p
unfolding poly
poly-coeffs p = same_coeffs _ _ p.trimmed

abbrev pub polynomial_code : Coded Polynomial
polynomial_code = code_by (List Fp) (coded_list fp_code) (λ p. p.coeffs) poly poly-coeffs
