-- Coefficient lists from their ends.
use Rattle.std.proofs.Common.{◌≡◌, ℕ, zero, suc, ◌+◌, ◌-◌, ◌<◌, ◌≤◌, List, [], ◌∷◌, ◌++◌, length, take, drop, get_or, true, false, eqb, not, max, refl, sym, ap, ap₂, ◌∙◌, subst, arith, drop-cons, take_all, add-one}
use Rattle.std.proofs.lemmas.List.{take_more, get_or_default}
use Rattle.std.specs.Prelude.{Option, Some, None, IsSome, MatchOption}
use Rattle.algebra61.specs.Field.{Fp, same_num, oneₚ, zeroₚ, ◌+ₚ◌, ◌*ₚ◌}
use Rattle.algebra61.specs.Poly.{eval, coeff, add_list, scale_list}
use Rattle.algebra61.proofs.Ring.{add_zero}
use Rattle.algebra61.proofs.PolyOps.{length-add, length-scale}
use Rattle.algebra61.proofs.Dual.{coeff-add, coeff-scale}
use Rattle.algebra61.specs.Trim.{trim, put_front, unless_zero}
use Rattle.algebra61.specs.Polynomial.{Polynomial, poly, same_coeffs}

pub list_is : (l : List Fp) (p : Polynomial) → trim l ≡ l → poly l ≡ p → l ≡ p.coeffs
unfolding poly
list_is l p h e = sym h ∙ ap (λ (x : Polynomial). x.coeffs) e

pub poly_same : (p q : List Fp) → trim p ≡ trim q → poly p ≡ poly q
unfolding poly
poly_same p q e = same_coeffs _ _ e

-- one coefficient more in Horner's way
pub horner : (p : List Fp) (k : ℕ) (x c v : Fp) → k < length p → c ≡ get_or p k zeroₚ → v ≡ eval (drop (suc k) p) x → c +ₚ x *ₚ v ≡ eval (drop k p) x
horner p k x c v lt h e = rw (h, e, drop-cons p k zeroₚ lt)

pub trim_zero : (p : List Fp) (n : ℕ) → n < length p → (get_or p n zeroₚ).num ≡ 0 → trim (take (suc n) p) ≡ trim (take n p)
trim_zero [] n lt z = absurd (omega arith)
trim_zero (c ∷ cs) zero lt z = ap (λ k. unless_zero (eqb k 0) c) z
trim_zero (c ∷ cs) (suc n) lt z = ap (put_front c) (trim_zero cs n (omega (arith, lt)) z)

not_zero : (n : ℕ) → (n ≡ 0 → ⊥) → eqb n 0 ≡ false
not_zero n h = grind arith

pub trim_here : (p : List Fp) (n : ℕ) → n < length p → ((get_or p n zeroₚ).num ≡ 0 → ⊥) → trim (take (suc n) p) ≡ take (suc n) p
trim_here [] n lt nz = absurd (omega arith)
trim_here (c ∷ cs) zero lt nz = ap (λ b. unless_zero b c) (not_zero c.num nz)
trim_here (c ∷ []) (suc n) lt nz = absurd (omega (arith, lt))
trim_here (c ∷ d ∷ ds) (suc n) lt nz = ap (put_front c) (trim_here (d ∷ ds) n (omega (arith, lt)) nz)

-- the two ways through the loop that looks for the end
pub end_here : (p : List Fp) (n : ℕ) (r : Fp) → 0 < n → n ≤ length p → r ≡ get_or p (n - 1) r → (r.num ≡ 0 → ⊥) → trim (take n p) ≡ take n p
end_here p zero r pos le is nz = absurd (omega arith)
end_here p (suc n) r pos le is nz =
    let e : suc n - 1 ≡ n = omega arith in
    trim_here p n (omega (arith, le)) (λ z. nz (ap (λ (x : Fp). x.num) (is ∙ ap (λ k. get_or p k r) e ∙ get_or_default p n r zeroₚ (omega (arith, le))) ∙ z))

pub end_further : (p : List Fp) (n : ℕ) (r : Fp) → 0 < n → n ≤ length p → r ≡ get_or p (n - 1) r → r.num ≡ 0 → trim (take (n - 1) p) ≡ trim (take n p)
end_further p zero r pos le is z = absurd (omega arith)
end_further p (suc n) r pos le is z =
    let e : suc n - 1 ≡ n = omega arith in
    let here : get_or p n zeroₚ ≡ r = sym (is ∙ ap (λ k. get_or p k r) e ∙ get_or_default p n r zeroₚ (omega (arith, le))) in
    rw e (sym (trim_zero p n (omega (arith, le)) (ap (λ (x : Fp). x.num) here ∙ z)))

-- ---- the sum, coefficient by coefficient
pub sum_step : (p q s : List Fp) (k : ℕ) (x : Fp) → k < length (add_list p q) → s ≡ take k (add_list p q) → x ≡ coeff p k +ₚ coeff q k → s ++ x ∷ [] ≡ take (k + 1) (add_list p q)
sum_step p q s k x lt e h = rw (e, h, ← coeff-add) (sym (take_more (add_list p q) k zeroₚ lt))

-- ---- the multiple, coefficient by coefficient
pub multiple_step : (c : Fp) (p s : List Fp) (k : ℕ) (x : Fp) → k < length (scale_list c p) → s ≡ take k (scale_list c p) → x ≡ c *ₚ coeff p k → s ++ x ∷ [] ≡ take (k + 1) (scale_list c p)
multiple_step c p s k x lt e h = rw (e, h, ← coeff-scale) (sym (take_more (scale_list c p) k zeroₚ lt))

-- ---- a multiple and a list one place further on
next_coeff : (a : Fp) (q : List Fp) (k : ℕ) → coeff (a ∷ q) (k + 1) ≡ coeff q k
next_coeff a q k = rw add-one refl

pub shift_first : (c : Fp) (p q s t : List Fp) (u x : Fp) → s ≡ [] → u ≡ coeff p 0 → x ≡ c *ₚ u → t ≡ s ++ x ∷ [] →
    t ≡ take (0 + 1) (add_list (scale_list c p) (zeroₚ ∷ q))
shift_first c p q s t u x es eu ex et =
    et ∙ sum_step (scale_list c p) (zeroₚ ∷ q) s 0 x (omega (arith, length-add (scale_list c p) (zeroₚ ∷ q))) es
    (ex ∙ ap (λ y. c *ₚ y) eu ∙ sym (coeff-scale c p 0) ∙ sym (add_zero (coeff (scale_list c p) 0)))

pub shift_next : (c : Fp) (p q s t : List Fp) (k n : ℕ) (u v m x : Fp) → k < n → n ≡ max (length p - 1) (length q) →
    s ≡ take (k + 1) (add_list (scale_list c p) (zeroₚ ∷ q)) → u ≡ coeff p (k + 1) → v ≡ coeff q k → m ≡ c *ₚ u → x ≡ m +ₚ v → t ≡ s ++ x ∷ [] →
    t ≡ take (k + 1 + 1) (add_list (scale_list c p) (zeroₚ ∷ q))
shift_next c p q s t k n u v m x lt en es eu ev em ex et =
    et ∙ sum_step (scale_list c p) (zeroₚ ∷ q) s (k + 1) x (omega (arith, length-add (scale_list c p) (zeroₚ ∷ q), length-scale c p, en, lt)) es
    (ex ∙ ap₂ (λ y z. y +ₚ z) (em ∙ ap (λ y. c *ₚ y) eu ∙ sym (coeff-scale c p (k + 1))) (ev ∙ sym (next_coeff zeroₚ q k)))

pub shift_end : (c : Fp) (p q s : List Fp) (k n : ℕ) → n ≤ k → n ≡ max (length p - 1) (length q) → s ≡ take (k + 1) (add_list (scale_list c p) (zeroₚ ∷ q)) →
    s ≡ add_list (scale_list c p) (zeroₚ ∷ q)
shift_end c p q s k n le en es =
    es ∙ take_all (k + 1) _ (omega (arith, length-add (scale_list c p) (zeroₚ ∷ q), length-scale c p, en, le))

-- ---- inverses that are there
pub inverse_there : (o : Option Fp) (a : Fp) → (a ≡ zeroₚ → ⊥) → MatchOption o (a ≡ zeroₚ) (λ x. a *ₚ x ≡ oneₚ) → IsSome o
inverse_there None a ne h = absurd (ne h)
inverse_there (Some x) a ne h = refl

pub inverse_of : (o : Option Fp) (a i : Fp) → o ≡ Some i → MatchOption o (a ≡ zeroₚ) (λ x. a *ₚ x ≡ oneₚ) → a *ₚ i ≡ oneₚ
inverse_of o a i e h = subst (λ p. MatchOption p (a ≡ zeroₚ) (λ x. a *ₚ x ≡ oneₚ)) e h

-- ---- what a comparison of elements says
pub differ_by_test : (a b : Fp) → true ≡ not (eqb a.num b.num) → a ≡ b → ⊥
differ_by_test a b t e = let n : a.num ≡ b.num = ap (λ (x : Fp). x.num) e in grind arith

same_numbers : (m n : ℕ) → false ≡ not (eqb m n) → m ≡ n
same_numbers m n t = grind arith

pub same_by_test : (a b : Fp) → false ≡ not (eqb a.num b.num) → a ≡ b
same_by_test a b t = same_num a b (same_numbers a.num b.num t)
