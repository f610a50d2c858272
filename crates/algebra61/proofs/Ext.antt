-- Two short lists with the same values everywhere are one polynomial, so identities of polynomials are identities of values.
use Rattle.std.proofs.Common.{◌≡◌, ℕ, zero, suc, ◌+◌, ◌<◌, ◌≤◌, List, [], ◌∷◌, length, Bool, true, false, eqb, refl, sym, ap, ap₂, ◌∙◌, arith}
use Rattle.algebra61.specs.Inverse.{invₚ}
use Rattle.algebra61.specs.Field.{Prime, Fp, fe, ◌+ₚ◌, ◌*ₚ◌, ◌-ₚ◌, negₚ, zeroₚ, oneₚ}
use Rattle.algebra61.specs.Poly.{eval, coeff, AllZero, Outside, Distinct, AllRoots, add_list, scale_list, mul_list}
use Rattle.algebra61.specs.Trim.{trim, put_front, unless_zero}
use Rattle.algebra61.specs.Grid.{grid_at, add_product}
use Rattle.algebra61.proofs.Ring.{num-fe_small, mul_zero, zero_mul, add_zero, sub_self, dif-same, difs, by_dif4, by_dif6, mul_commut}
use Rattle.algebra61.proofs.Inverse.{mul_invₚ, other_zero, num-zero}
use Rattle.algebra61.proofs.PolyOps.{sub_list, eval-sub, eval-add, eval-scale, length-sub}
use Rattle.algebra61.proofs.Roots.{too_many_roots}
use Rattle.algebra61.proofs.Trim.{trim_same}
use Rattle.algebra61.proofs.Dual.{coeff_top, coeff_past, coeff-add, coeff-scale, coeff-all_zero}
use Rattle.algebra61.proofs.Interpolate.{vanish, vanish_outside, vanish_roots}

-- the points n, n - 1 .. 1
abbrev pub points_to : ℕ → List Fp
points_to zero = []
points_to (suc n) = fe (suc n) ∷ points_to n

-- numbers below Prime that differ give elements that differ
pub fe_apart : (m n : ℕ) → m < n → n < Prime → fe n ≡ fe m → ⊥
fe_apart m n lt h e = omega (arith, num-fe_small n h, num-fe_small m (omega arith), ap (λ (x : Fp). x.num) e)

above : (k n : ℕ) → n < k → k < Prime → Outside (fe k) (points_to n)
above k zero lt h = tt
above k (suc n) lt h = (fe_apart (suc n) k lt h, above k n (omega (arith, lt)) h)

pub points_distinct : (n : ℕ) → n < Prime → Distinct (points_to n)
points_distinct zero h = tt
points_distinct (suc n) h = (above (suc n) n (omega arith) h, points_distinct n (omega (arith, h)))

length-points_to : (n : ℕ) → length (points_to n) ≡ n
length-points_to zero = refl
length-points_to (suc n) = ap suc (length-points_to n)

all_roots : (p : List Fp) (xs : List Fp) → ((x : Fp) → eval p x ≡ zeroₚ) → AllRoots p xs
all_roots p [] h = tt
all_roots p (x ∷ xs) h = (h x, all_roots p xs h)

pub zero_everywhere : (p : List Fp) → length p < Prime → ((x : Fp) → eval p x ≡ zeroₚ) → AllZero p
zero_everywhere p lt h =
    too_many_roots p (points_to (length p)) (omega (arith, length-points_to (length p))) (points_distinct (length p) lt) (all_roots p (points_to (length p)) h)

pub same_values : (p q : List Fp) → length p < Prime → length q < Prime → ((x : Fp) → eval p x ≡ eval q x) → trim p ≡ trim q
same_values p q lp lq h =
    trim_same p q (zero_everywhere (sub_list p q) (omega (arith, length-sub p q, lp, lq)) (λ x. eval-sub p q x ∙ ap (λ y. y -ₚ eval q x) (h x) ∙ sub_self (eval q x)))

-- ---- the last coefficient
unless_last : (b : Bool) (c : Fp) → eqb c.num 0 ≡ b → unless_zero b c ≡ c ∷ [] → c ≡ zeroₚ → ⊥
unless_last true c t e z = cc
unless_last false c t e z = let n : c.num ≡ 0 = ap (λ (x : Fp). x.num) z ∙ num-zero in grind arith

rest_one : (b : Bool) (c d : Fp) (ds : List Fp) → unless_zero b c ≡ c ∷ d ∷ ds → [] ≡ d ∷ ds
rest_one true c d ds e = cc
rest_one false c d ds e = cc

rest_trimmed : (c d : Fp) (ds t : List Fp) → put_front c t ≡ c ∷ d ∷ ds → t ≡ d ∷ ds
rest_trimmed c d ds [] e = rest_one (eqb c.num 0) c d ds e
rest_trimmed c d ds (x ∷ xs) e = cc

pub last_apart : (p : List Fp) (n : ℕ) → trim p ≡ p → length p ≡ suc n → coeff p n ≡ zeroₚ → ⊥
last_apart [] n t l z = absurd (omega (arith, l))
last_apart (c ∷ []) zero t l z = unless_last (eqb c.num 0) c refl t z
last_apart (c ∷ []) (suc n) t l z = absurd (omega (arith, l))
last_apart (c ∷ d ∷ ds) zero t l z = absurd (omega (arith, l))
last_apart (c ∷ d ∷ ds) (suc n) t l z = last_apart (d ∷ ds) n (rest_trimmed c d ds (trim (d ∷ ds)) t) (omega (arith, l)) z

-- a multiple of e that is shorter than e is zero
pub short_multiple : (m n : ℕ) (e s r : List Fp) → trim e ≡ e → trim s ≡ s → length e ≡ suc m → length s ≡ suc n → length r ≤ m →
    AllZero (sub_list (mul_list e s) r) → ⊥
short_multiple m n e s r te ts le ls lr z =
    let top = coeff-add (mul_list e s) (scale_list (negₚ oneₚ) r) (m + n)
    ∙ ap₂ (λ x y. x +ₚ y) (coeff_top e s m n le ls) (coeff-scale (negₚ oneₚ) r (m + n) ∙ ap (λ x. negₚ oneₚ *ₚ x) (coeff_past r (m + n) (omega (arith, lr))) ∙ mul_zero (negₚ oneₚ))
    ∙ add_zero (coeff e m *ₚ coeff s n) in
    last_apart s n ts ls (other_zero (coeff e m) (coeff s n) (last_apart e m te le) (sym top ∙ coeff-all_zero _ (m + n) z))

-- ---- the polynomial with value 1 at 0 and 0 on the list
abbrev pub vanisher : List Fp → List Fp
vanisher rs = scale_list (invₚ (eval (vanish rs) zeroₚ)) (vanish rs)

pub vanisher_at_zero : (rs : List Fp) → Outside zeroₚ rs → eval (vanisher rs) zeroₚ ≡ oneₚ
vanisher_at_zero rs o =
    eval-scale _ (vanish rs) zeroₚ ∙ mul_commut _ _ ∙ mul_invₚ (eval (vanish rs) zeroₚ) (vanish_outside zeroₚ rs o)

scaled_roots : (k : Fp) (p xs : List Fp) → AllRoots p xs → AllRoots (scale_list k p) xs
scaled_roots k p [] a = tt
scaled_roots k p (x ∷ xs) a = (eval-scale k p x ∙ ap (λ y. k *ₚ y) a.0 ∙ mul_zero k, scaled_roots k p xs a.1)

pub vanisher_roots : (rs : List Fp) → AllRoots (vanisher rs) rs
vanisher_roots rs = scaled_roots _ (vanish rs) rs (vanish_roots rs)

-- ---- the values of a grid with a product added
product_ring : (p a v x g u : Fp) → (p +ₚ a *ₚ v) +ₚ x *ₚ (g +ₚ u *ₚ v) ≡ (p +ₚ x *ₚ g) +ₚ (a +ₚ x *ₚ u) *ₚ v
product_ring = by_dif6 _ (λ m n k l i j. simp difs (dif-same _ _ _ _ (omega arith)))

first_ring : (a v x u : Fp) → a *ₚ v +ₚ x *ₚ (zeroₚ +ₚ u *ₚ v) ≡ zeroₚ +ₚ (a +ₚ x *ₚ u) *ₚ v
first_ring = by_dif4 _ (λ m n k l. simp difs (dif-same _ _ _ _ (omega arith)))

pub at_add_product : (g : List (List Fp)) (u v : List Fp) (x y : Fp) → grid_at (add_product g u v) x y ≡ grid_at g x y +ₚ eval u x *ₚ eval v y
at_add_product g [] v x y = sym (simp (zero_mul, add_zero))
at_add_product [] (a ∷ u) v x y =
    ap₂ (λ c d. c +ₚ x *ₚ d) (eval-scale a v y) (at_add_product [] u v x y) ∙ first_ring a (eval v y) x (eval u x)
at_add_product (p ∷ ps) (a ∷ u) v x y =
    ap₂ (λ c d. c +ₚ x *ₚ d) (eval-add p (scale_list a v) y ∙ ap (λ c. eval p y +ₚ c) (eval-scale a v y)) (at_add_product ps u v x y)
    ∙ product_ring (eval p y) a (eval v y) x (grid_at ps x y) (eval u x)
