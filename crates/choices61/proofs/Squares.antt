-- Grids by their coefficients: a grid to which a product is added, and from which it is taken again.
use Rattle.std.proofs.Common.{◌≡◌, ℕ, zero, suc, ◌+◌, ◌<◌, ◌≤◌, List, [], ◌∷◌, length, get_or, sym, ap, ap₂, ◌∙◌, arith}
use Rattle.std.proofs.lemmas.List.Elements.{All-get_or, All-from_get_or}
use Rattle.algebra61.specs.Field.{Fp, zeroₚ, ◌+ₚ◌, ◌*ₚ◌, negₚ}
use Rattle.algebra61.specs.Poly.{coeff, scale_list}
use Rattle.algebra61.proofs.Ring.{zero_mul, add_zero, zero_add, dif-same, difs, by_dif3}
use Rattle.algebra61.proofs.PolyOps.{length-add, length-scale}
use Rattle.algebra61.proofs.Dual.{coeff-add, coeff-scale}
use Rattle.algebra61.specs.Grid.{add_product}
use Rattle.histories61.proofs.Errors.{same_entries}
use Rattle.bivar61.specs.Grids.{IsGrid, coefficient}

pub coefficient-product : (g : List (List Fp)) (u v : List Fp) (a b : ℕ) → coefficient (add_product g u v) a b ≡ coefficient g a b +ₚ coeff u a *ₚ coeff v b
coefficient-product g [] v a b = sym (ap (λ x. coefficient g a b +ₚ x) (zero_mul (coeff v b)) ∙ add_zero (coefficient g a b))
coefficient-product [] (c ∷ u) v zero b = coeff-scale c v b ∙ sym (zero_add (c *ₚ coeff v b))
coefficient-product [] (c ∷ u) v (suc a) b = coefficient-product [] u v a b
coefficient-product (p ∷ ps) (c ∷ u) v zero b = coeff-add p (scale_list c v) b ∙ ap (λ x. coeff p b +ₚ x) (coeff-scale c v b)
coefficient-product (p ∷ ps) (c ∷ u) v (suc a) b = coefficient-product ps u v a b

-- ---- the shape stays
length-square : (n : ℕ) (g : List (List Fp)) (u v : List Fp) → length g ≡ n → length u ≤ n → length (add_product g u v) ≡ n
length-square n g [] v lg lu = lg
length-square zero [] (c ∷ u) v lg lu = absurd (omega (arith, lu))
length-square (suc n) [] (c ∷ u) v lg lu = absurd (omega (arith, lg))
length-square zero (p ∷ ps) (c ∷ u) v lg lu = absurd (omega (arith, lg))
length-square (suc n) (p ∷ ps) (c ∷ u) v lg lu = ap suc (length-square n ps u v (omega (arith, lg)) (omega (arith, lu)))

row-long : (n : ℕ) (g : List (List Fp)) (u v : List Fp) (a : ℕ) → length u ≤ length g → ((k : ℕ) → k < length g → length (get_or g k []) ≡ n) → length v ≤ n → a < length g → length (get_or (add_product g u v) a []) ≡ n
row-long n g [] v a lu al lv la = al a la
row-long n [] (c ∷ u) v a lu al lv la = absurd (omega (arith, lu))
row-long n (p ∷ ps) (c ∷ u) v zero lu al lv la = omega (arith, length-add p (scale_list c v), length-scale c v, al 0 la, lv)
row-long n (p ∷ ps) (c ∷ u) v (suc a) lu al lv la = row-long n ps u v a (omega (arith, lu)) (λ k lk. al (suc k) (omega (arith, lk))) lv (omega (arith, la))

pub square_added : (d : ℕ) (g : List (List Fp)) (u v : List Fp) → IsGrid d g → length u ≤ d + 1 → length v ≤ d + 1 → IsGrid d (add_product g u v)
square_added d g u v is lu lv = record {
  limit = is.limit;
  in_x = length-square (d + 1) g u v is.in_x lu;
  in_y = All-from_get_or (λ (p : List Fp). length p ≡ d + 1) (add_product g u v) []
      (λ a la. row-long (d + 1) g u v a (omega (arith, is.in_x, lu)) (λ k lk. All-get_or (λ (p : List Fp). length p ≡ d + 1) g k [] lk is.in_y) lv (omega (arith, la, length-square (d + 1) g u v is.in_x lu, is.in_x)));
}

-- ---- equal coefficients
pub square_same : (d : ℕ) (g h : List (List Fp)) → IsGrid d g → IsGrid d h → ((a b : ℕ) → a < d + 1 → b < d + 1 → coefficient g a b ≡ coefficient h a b) → g ≡ h
square_same d g h ig ih same =
    same_entries [] g h (omega (arith, ig.in_x, ih.in_x))
    (λ a la.
    let lg : length (get_or g a []) ≡ d + 1 = All-get_or (λ (p : List Fp). length p ≡ d + 1) g a [] la ig.in_y in
    let lh : length (get_or h a []) ≡ d + 1 = All-get_or (λ (p : List Fp). length p ≡ d + 1) h a [] (omega (arith, la, ig.in_x, ih.in_x)) ih.in_y in
    same_entries zeroₚ (get_or g a []) (get_or h a []) (omega (arith, lg, lh)) (λ b lb. same a b (omega (arith, la, ig.in_x)) (omega (arith, lb, lg))))

-- ---- a product is taken again
again_ring : (c u h : Fp) → (c +ₚ u *ₚ h) +ₚ u *ₚ negₚ h ≡ c
again_ring = by_dif3 _ (λ m n k. simp difs (dif-same _ _ _ _ (omega arith)))

pub product_again : (d : ℕ) (g : List (List Fp)) (u v w : List Fp) → IsGrid d g → length u ≤ d + 1 → length v ≤ d + 1 → length w ≤ d + 1 → ((b : ℕ) → coeff w b ≡ negₚ (coeff v b)) →
    add_product (add_product g u v) u w ≡ g
product_again d g u v w is lu lv lw opposite =
    square_same d (add_product (add_product g u v) u w) g (square_added d (add_product g u v) u w (square_added d g u v is lu lv) lu lw) is
    (λ a b la lb.
    coefficient-product (add_product g u v) u w a b
    ∙ ap₂ (λ x y. x +ₚ coeff u a *ₚ y) (coefficient-product g u v a b) (opposite b)
    ∙ again_ring (coefficient g a b) (coeff u a) (coeff v b))
