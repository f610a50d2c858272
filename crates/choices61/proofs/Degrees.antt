-- The degree of a grid to which a product is added.
use Rattle.std.proofs.Common.{ℕ, zero, suc, ◌+◌, ◌≤◌, List, [], ◌∷◌, length, arith}
use Rattle.algebra61.specs.Field.{Fp}
use Rattle.algebra61.specs.Poly.{scale_list}
use Rattle.algebra61.specs.Grid.{AllShort, Degree}
use Rattle.algebra61.proofs.PolyOps.{length-add, length-scale}
use Rattle.algebra61.specs.Grid.{add_product}

length-product : (n : ℕ) (g : List (List Fp)) (u v : List Fp) → length g ≤ n → length u ≤ n → length (add_product g u v) ≤ n
length-product n g [] v lg lu = lg
length-product zero [] (a ∷ u) v lg lu = absurd (omega (arith, lu))
length-product (suc n) [] (a ∷ u) v lg lu = omega (arith, length-product n [] u v (omega arith) (omega (arith, lu)))
length-product zero (p ∷ ps) (a ∷ u) v lg lu = absurd (omega (arith, lu))
length-product (suc n) (p ∷ ps) (a ∷ u) v lg lu = omega (arith, length-product n ps u v (omega (arith, lg)) (omega (arith, lu)))

short-product : (n : ℕ) (g : List (List Fp)) (u v : List Fp) → AllShort n g → length v ≤ n → AllShort n (add_product g u v)
short-product n g [] v sg lv = sg
short-product n [] (a ∷ u) v sg lv = (omega (arith, length-scale a v, lv), short-product n [] u v sg lv)
short-product n (p ∷ ps) (a ∷ u) v sg lv = (omega (arith, length-add p (scale_list a v), length-scale a v, sg.0, lv), short-product n ps u v sg.1 lv)

pub degree_added : (d : ℕ) (g : List (List Fp)) (u v : List Fp) → Degree d g → length u ≤ d + 1 → length v ≤ d + 1 → Degree d (add_product g u v)
degree_added d g u v dg lu lv = record { in_x = length-product (d + 1) g u v dg.in_x lu; in_y = short-product (d + 1) g u v dg.in_y lv }
