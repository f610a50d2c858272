-- Division with remainder.
use Rattle.std.specs.Prelude.{◌≡◌, ◌<◌, length}
use Rattle.algebra61.specs.Poly.{add_list, mul_list}
use Rattle.algebra61.specs.Polynomial.{Polynomial, poly}

-- q is the quotient and r the remainder of p by o: p is q times o plus r, and r is shorter than o
pub record IsDivision (p o q r : Polynomial) : Type 0 where
  pub sums : p ≡ poly (add_list (mul_list q.coeffs o.coeffs) r.coeffs)
  pub short : length r.coeffs < length o.coeffs
