-- The vanishing polynomials, by coefficients: zeros at a list's end make no difference.
use Rattle.std.proofs.Common.{◌≡◌, ℕ, zero, suc, ◌+◌, ◌-◌, ◌<◌, ◌≤◌, Bool, true, false, cond, List, [], ◌∷◌, refl, sym, ap, ap₂, ◌∙◌, arith}
use Rattle.algebra61.specs.Field.{Fp, Prime, fe, zeroₚ, oneₚ, negₚ, ◌+ₚ◌, ◌*ₚ◌}
use Rattle.algebra61.specs.Poly.{coeff, scale_list, mul_list}
use Rattle.algebra61.specs.Polynomial.{Polynomial, poly}
use Rattle.algebra61.proofs.Dual.{coeff-add, coeff-scale}
use Rattle.algebra61.proofs.Ext.{fe_apart}
use Rattle.algebra61.proofs.Inverse.{inverse_is}
use Rattle.poly61.proofs.Coefficients.{coeff-poly, poly_by_coeffs, coeff-mul_same}
use Rattle.choices61.specs.Sets.{vanishing_at, vanisher_of, over_y}

-- ---- polynomials of lists
-- its coefficients are those of the list
pub coeff_of : (q : Polynomial) (p : List Fp) → q ≡ poly p → (k : ℕ) → coeff q.coeffs k ≡ coeff p k
coeff_of q p e k = ap (λ (x : Polynomial). coeff x.coeffs k) e ∙ coeff-poly p k

-- lists with the same coefficients are one polynomial
pub poly_same : (p q : List Fp) → ((k : ℕ) → coeff p k ≡ coeff q k) → poly p ≡ poly q
poly_same p q h = poly_by_coeffs (poly p) q (λ k. coeff-poly p k ∙ h k)

coeff-mul_right : (p q r : List Fp) → ((k : ℕ) → coeff q k ≡ coeff r k) → (k : ℕ) → coeff (mul_list p q) k ≡ coeff (mul_list p r) k
coeff-mul_right [] q r h k = refl
coeff-mul_right (a ∷ p) q r h zero =
    coeff-add (scale_list a q) (zeroₚ ∷ mul_list p q) 0
    ∙ ap (λ x. x +ₚ zeroₚ) (coeff-scale a q 0 ∙ ap (λ x. a *ₚ x) (h 0) ∙ sym (coeff-scale a r 0))
    ∙ sym (coeff-add (scale_list a r) (zeroₚ ∷ mul_list p r) 0)
coeff-mul_right (a ∷ p) q r h (suc k) =
    coeff-add (scale_list a q) (zeroₚ ∷ mul_list p q) (suc k)
    ∙ ap₂ (λ x y. x +ₚ y) (coeff-scale a q (suc k) ∙ ap (λ x. a *ₚ x) (h (suc k)) ∙ sym (coeff-scale a r (suc k))) (coeff-mul_right p q r h k)
    ∙ sym (coeff-add (scale_list a r) (zeroₚ ∷ mul_list p r) (suc k))

-- the product of two polynomials of lists
pub product_of : (one other product : Polynomial) (p q : List Fp) → one ≡ poly p → other ≡ poly q → product ≡ poly (mul_list one.coeffs other.coeffs) → product ≡ poly (mul_list p q)
product_of one other product p q ep eq e =
    e
    ∙ poly_same (mul_list one.coeffs other.coeffs) (mul_list p q)
    (λ k. coeff-mul_same one.coeffs p other.coeffs (coeff_of one p ep) k ∙ coeff-mul_right p other.coeffs q (coeff_of other q eq) k)

pub coeff-over_y : (p : List Fp) (k : ℕ) → coeff (over_y p) k ≡ coeff p (suc k)
coeff-over_y [] k = refl
coeff-over_y (c ∷ cs) k = refl

-- ---- one member
small : (member : ℕ) → member ≤ 30 → member < Prime
small member le = omega (arith, le)

pub apart_from_zero : (member : ℕ) → 1 ≤ member → member ≤ 30 → fe member ≡ zeroₚ → ⊥
apart_from_zero member from to = fe_apart 0 member (omega (arith, from)) (small member to)

pub vanishing_is : (member : ℕ) (inverse negative : Fp) (found : Polynomial) → 1 ≤ member → member ≤ 30 → fe member *ₚ inverse ≡ oneₚ → negative ≡ negₚ inverse →
    found ≡ poly (oneₚ ∷ negative ∷ []) → found ≡ poly (vanishing_at member)
vanishing_is member inverse negative found from to e en ef =
    ef ∙ ap (λ v. poly (oneₚ ∷ v ∷ [])) (en ∙ ap negₚ (inverse_is (fe member) inverse (apart_from_zero member from to) e))

-- ---- one member more
vanisher_more : (n : ℕ) (set : ℕ → Bool) (b : Bool) → set (suc n) ≡ b → vanisher_of (suc n) set ≡ cond b (mul_list (vanishing_at (suc n)) (vanisher_of n set)) (vanisher_of n set)
unfolding vanisher_of
vanisher_more n set b e = ap (λ (c : Bool). cond c (mul_list (vanishing_at (suc n)) (vanisher_of n set)) (vanisher_of n set)) e

none_named : (set : ℕ → Bool) → vanisher_of 0 set ≡ oneₚ ∷ []
unfolding vanisher_of
none_named set = refl

pub vanisher_start : (set : ℕ → Bool) (product : Polynomial) → product ≡ poly (oneₚ ∷ []) → product ≡ poly (vanisher_of 0 set)
vanisher_start set product e = e ∙ ap poly (sym (none_named set))

pub vanisher_with : (k : ℕ) (set : ℕ → Bool) (product one next : Polynomial) → 1 ≤ k → set k ≡ true → product ≡ poly (vanisher_of (k - 1) set) → one ≡ poly (vanishing_at k) →
    next ≡ poly (mul_list one.coeffs product.coeffs) → next ≡ poly (vanisher_of (k + 1 - 1) set)
vanisher_with k set product one next from named e eo en =
    let here : suc (k - 1) ≡ k = omega (arith, from) in
    let there : suc (k - 1) ≡ k + 1 - 1 = omega (arith, from) in
    product_of one product next (vanishing_at k) (vanisher_of (k - 1) set) eo e en
    ∙ ap (λ j. poly (mul_list (vanishing_at j) (vanisher_of (k - 1) set))) (sym here)
    ∙ ap poly (sym (vanisher_more (k - 1) set true (ap set here ∙ named)))
    ∙ ap (λ j. poly (vanisher_of j set)) there

pub vanisher_without : (k : ℕ) (set : ℕ → Bool) (product : Polynomial) → 1 ≤ k → set k ≡ false → product ≡ poly (vanisher_of (k - 1) set) → product ≡ poly (vanisher_of (k + 1 - 1) set)
vanisher_without k set product from named e =
    let here : suc (k - 1) ≡ k = omega (arith, from) in
    let there : suc (k - 1) ≡ k + 1 - 1 = omega (arith, from) in
    e ∙ ap poly (sym (vanisher_more (k - 1) set false (ap set here ∙ named))) ∙ ap (λ j. poly (vanisher_of j set)) there
