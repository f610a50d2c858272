-- A grid's value, rows and columns as sums of powers.
use Rattle.std.proofs.Common.{◌≡◌, ℕ, zero, suc, ◌+◌, List, [], ◌∷◌, length, get_or, refl, sym, ap, ap₂, ◌∙◌, arith}
use Rattle.algebra61.specs.Field.{Fp, zeroₚ, oneₚ, powₚ, ◌+ₚ◌, ◌*ₚ◌}
use Rattle.algebra61.specs.Poly.{eval, coeff}
use Rattle.algebra61.specs.Grid.{row, column, grid_at}
use Rattle.algebra61.proofs.Ring.{add_zero, zero_add, add_assocₚ, add_commut, mul_zero, zero_mul, mul_one, dif-same, difs, by_dif2, by_dif3, by_dif4}
use Rattle.algebra61.proofs.Pow.{pow_zero, pow_next}
use Rattle.algebra61.proofs.Grid.{eval-column}
use Rattle.bivar61.specs.Grids.{coefficient}
use Rattle.bivar61.specs.Sums.{sum_below, grid_sum, GridSums}

-- the first term apart
sum_first : (n : ℕ) (f : ℕ → Fp) → sum_below (suc n) f ≡ f 0 +ₚ sum_below n (λ k. f (suc k))
sum_first zero f = zero_add (f 0) ∙ sym (add_zero (f 0))
sum_first (suc n) f = ap (λ v. v +ₚ f (suc n)) (sum_first n f) ∙ add_assocₚ (f 0) _ (f (suc n))

sum_same : (n : ℕ) (f g : ℕ → Fp) → ((k : ℕ) → f k ≡ g k) → sum_below n f ≡ sum_below n g
sum_same zero f g h = refl
sum_same (suc n) f g h = ap₂ (λ a b. a +ₚ b) (sum_same n f g h) (h n)

times_ring : (x a b : Fp) → x *ₚ (a +ₚ b) ≡ x *ₚ a +ₚ x *ₚ b
times_ring = by_dif3 _ (λ m n k. simp difs (dif-same _ _ _ _ (omega arith)))

sum_times : (n : ℕ) (x : Fp) (f : ℕ → Fp) → x *ₚ sum_below n f ≡ sum_below n (λ k. x *ₚ f k)
sum_times zero x f = mul_zero x
sum_times (suc n) x f = times_ring x (sum_below n f) (f n) ∙ ap (λ v. v +ₚ x *ₚ f n) (sum_times n x f)

next_ring : (y c p : Fp) → y *ₚ (c *ₚ p) ≡ c *ₚ (y *ₚ p)
next_ring = by_dif3 _ (λ m n k. simp difs (dif-same _ _ _ _ (omega arith)))

-- the value of a polynomial is the sum of its coefficients times powers
eval_sum : (cs : List Fp) (y : Fp) → eval cs y ≡ sum_below (length cs) (λ b. coeff cs b *ₚ powₚ y b)
eval_sum [] y = refl
eval_sum (c ∷ cs) y =
    let term : ℕ → Fp = λ b. coeff (c ∷ cs) b *ₚ powₚ y b in
    let first : term 0 ≡ c = ap (λ v. c *ₚ v) (pow_zero y) ∙ mul_one c in
    let rest : y *ₚ eval cs y ≡ sum_below (length cs) (λ b. term (suc b)) =
    ap (λ v. y *ₚ v) (eval_sum cs y)
    ∙ sum_times (length cs) y (λ b. coeff cs b *ₚ powₚ y b)
    ∙ sum_same (length cs) _ _ (λ b. next_ring y (coeff cs b) (powₚ y b) ∙ ap (λ v. coeff cs b *ₚ v) (sym (pow_next y b))) in
    ap₂ (λ a b. a +ₚ b) (sym first) rest ∙ sym (sum_first (length cs) term)

coeff_row : (g : List (List Fp)) (y : Fp) (a : ℕ) → coeff (row g y) a ≡ eval (get_or g a []) y
coeff_row [] y a = refl
coeff_row (p ∷ ps) y zero = refl
coeff_row (p ∷ ps) y (suc a) = coeff_row ps y a

pub length-row : (g : List (List Fp)) (y : Fp) → length (row g y) ≡ length g
length-row [] y = refl
length-row (p ∷ ps) y = ap suc (length-row ps y)

product_ring : (x c p : Fp) → x *ₚ (c *ₚ p) ≡ c *ₚ x *ₚ p
product_ring = by_dif3 _ (λ m n k. simp difs (dif-same _ _ _ _ (omega arith)))

swap_ring : (a b : Fp) → a *ₚ b ≡ b *ₚ a
swap_ring = by_dif2 _ (λ m n. simp difs (dif-same _ _ _ _ (omega arith)))

-- the terms of one power of x
inner : (cs : List Fp) (x y : Fp) (a : ℕ) → eval cs y *ₚ powₚ x a ≡ sum_below (length cs) (λ b. coeff cs b *ₚ powₚ x a *ₚ powₚ y b)
inner cs x y a =
    swap_ring (eval cs y) (powₚ x a)
    ∙ ap (λ v. powₚ x a *ₚ v) (eval_sum cs y)
    ∙ sum_times (length cs) (powₚ x a) (λ b. coeff cs b *ₚ powₚ y b)
    ∙ sum_same (length cs) _ _ (λ b. product_ring (powₚ x a) (coeff cs b) (powₚ y b))

pub value_is : (g : List (List Fp)) (x y : Fp) → grid_at g x y ≡ grid_sum g x y
value_is g x y =
    eval_sum (row g y) x
    ∙ ap (λ n. sum_below n (λ a. coeff (row g y) a *ₚ powₚ x a)) (length-row g y)
    ∙ sum_same (length g) _ _ (λ a. ap (λ v. v *ₚ powₚ x a) (coeff_row g y a) ∙ inner (get_or g a []) x y a)

pub grid_sums : (g : List (List Fp)) → GridSums g
grid_sums g = record {
  value = value_is g;
  in_row = value_is g;
  in_column = λ x y. eval-column g x y ∙ value_is g x y;
}
