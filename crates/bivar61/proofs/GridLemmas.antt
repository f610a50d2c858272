-- Lists of rows, row by row and coefficient by coefficient.
use Rattle.std.proofs.Common.{◌≡◌, ℕ, zero, suc, ◌+◌, ◌-◌, ◌*◌, ◌<◌, ◌≤◌, max, List, [], ◌∷◌, ◌++◌, length, take, drop, slice_get, Some, get_or, refl, sym, ap, ap₂, ◌∙◌, subst, arith, drop-cons, length-drop, drop_of_length-le, append-nil, All}
use Rattle.std.proofs.lemmas.List.{length-take, take_all, take_more, drop-drop, append_assoc, get_or-drop, get_or-take}
use Rattle.algebra61.specs.Field.{Fp, zeroₚ, ◌+ₚ◌, ◌*ₚ◌}
use Rattle.algebra61.specs.Poly.{eval, coeff, add_list, scale_list}
use Rattle.algebra61.specs.Grid.{row, column, grid_at}
use Rattle.algebra61.proofs.Ring.{zero_add, add_zero, zero_mul, mul_zero, dif-same, difs, by_dif3, by_dif4, by_dif6}
use Rattle.algebra61.proofs.PolyOps.{length-add, length-scale}
use Rattle.algebra61.proofs.Dual.{coeff-add, coeff-scale}
use Rattle.lists.proofs.Places.{drop_at}
use Rattle.bivar61.specs.Grids.{IsGrid, coefficient, rows_of, grid_of, multiple_added}

-- the grid with u (x) * v (y) added, from the power a of x on
abbrev pub product_added : ℕ → List (List Fp) → List Fp → List Fp → List (List Fp)
product_added a [] u v = []
product_added a (p ∷ ps) u v = multiple_added (coeff u a) 0 p v ∷ product_added (suc a) ps u v

-- each list has n coefficients
abbrev pub AllLong : ℕ → List (List Fp) → Type 0
AllLong n g = All (λ (p : List Fp). length p ≡ n) g

head_long : (n : ℕ) (p : List Fp) (ps : List (List Fp)) → AllLong n (p ∷ ps) → length p ≡ n
head_long n p ps h = h 0 p (omega arith)

tail_long : (n : ℕ) (p : List Fp) (ps : List (List Fp)) → AllLong n (p ∷ ps) → AllLong n ps
tail_long n p ps h = λ k d lt. h (suc k) d (omega arith)

cons_long : (n : ℕ) (p : List Fp) (ps : List (List Fp)) → length p ≡ n → AllLong n ps → AllLong n (p ∷ ps)
cons_long n p ps e h zero d lt = e
cons_long n p ps e h (suc k) d lt = h k d (omega arith)

-- the element that an index found is the one at the place, whatever stands for one past the end
found_long : (n : ℕ) (g : List (List Fp)) (a : ℕ) (p : List Fp) → AllLong n g → a < length g → p ≡ get_or g a p → length p ≡ n
found_long n g a p h lt e = ap length e ∙ h a p lt

pub inside_of : (d : ℕ) (g : List (List Fp)) (a b : ℕ) (p : List Fp) → p ≡ get_or g a p → IsGrid d g → a < length g → b < length g → b < length p
inside_of d g a b p e h la lb = omega (arith, found_long (d + 1) g a p h.in_y la e, h.in_x)

pub found_is : (g : List (List Fp)) (a : ℕ) (p : List Fp) → a < length g → p ≡ get_or g a p → p ≡ get_or g a []
found_is [] a p lt e = absurd (omega arith)
found_is (q ∷ qs) zero p lt e = e
found_is (q ∷ qs) (suc a) p lt e = found_is qs a p (omega (arith, lt)) e

-- ---- the rows of a list of elements
pub length-rows_of : (n k : ℕ) (c : List Fp) → length (rows_of n k c) ≡ k
length-rows_of n zero c = refl
length-rows_of n (suc k) c = ap suc (length-rows_of n k (drop n c))

enough : (n k m : ℕ) → suc k * n ≤ m → (n ≤ m) × (k * n ≤ m - n)
enough n k m h = (omega (arith, h), omega (arith, h))

pub rows_long : (n k : ℕ) (c : List Fp) → k * n ≤ length c → AllLong n (rows_of n k c)
rows_long n zero c h = λ k d lt. absurd (omega arith)
rows_long n (suc k) c h =
    let e = enough n k (length c) h in
    cons_long n (take n c) (rows_of n k (drop n c)) (omega (arith, length-take n c, e.0)) (rows_long n k (drop n c) (omega (arith, length-drop n c, e.1)))

-- one row more
pub rows_more : (n k : ℕ) (c : List Fp) → rows_of n (suc k) c ≡ rows_of n k c ++ take n (drop (k * n) c) ∷ []
rows_more n zero c = ap (λ j. take n (drop j c) ∷ []) (let e : 0 ≡ 0 * n = omega arith in e)
rows_more n (suc k) c =
    ap (λ ps. take n c ∷ ps) (rows_more n k (drop n c) ∙ ap (λ p. rows_of n k (drop n c) ++ p ∷ [])
    (ap (take n) (drop-drop (k * n) n c ∙ ap (λ j. drop j c) (let e : n + k * n ≡ suc k * n = omega arith in e))))

-- the element at each place
pub placed : (n k : ℕ) (c : List Fp) (a b : ℕ) → a < k → b < n → coefficient (rows_of n k c) a b ≡ coeff c (a * n + b)
placed n zero c a b la lb = absurd (omega arith)
placed n (suc k) c zero b la lb = get_or-take n c b zeroₚ lb ∙ ap (coeff c) (let e : b ≡ 0 * n + b = omega arith in e)
placed n (suc k) c (suc a) b la lb =
    placed n k (drop n c) a b (omega (arith, la)) lb ∙ get_or-drop n c (a * n + b) zeroₚ
    ∙ ap (coeff c) (let e : n + (a * n + b) ≡ suc a * n + b = omega arith in e)

pub grid_of_is : (d : ℕ) (c : List Fp) → d ≤ 14 → length c ≡ (d + 1) * (d + 1) → IsGrid d (grid_of d c)
grid_of_is d c le e = record {
  limit = le;
  in_x = length-rows_of (d + 1) (d + 1) c;
  in_y = rows_long (d + 1) (d + 1) c (omega (arith, e));
}

-- ---- columns
pub length-column_of : (n : ℕ) (g : List (List Fp)) (x : Fp) → 0 < length g → AllLong n g → length (column g x) ≡ n
length-column_of n [] x pos h = absurd (omega arith)
length-column_of n (p ∷ []) x pos h = omega (arith, head_long n p [] h, length-add p (scale_list x (column [] x)), length-scale x (column [] x))
length-column_of n (p ∷ q ∷ ps) x pos h =
    omega (arith, head_long n p (q ∷ ps) h, length-add p (scale_list x (column (q ∷ ps) x)), length-scale x (column (q ∷ ps) x), length-column_of n (q ∷ ps) x (let e : 0 < length (q ∷ ps) = omega arith in e) (tail_long n p (q ∷ ps) h))

-- one row more in Horner's way
pub column_step : (g : List (List Fp)) (a b : ℕ) (x c v : Fp) (p : List Fp) → a < length g → p ≡ get_or g a p → c ≡ coeff p b → v ≡ coeff (column (drop (suc a) g) x) b →
    c +ₚ x *ₚ v ≡ coeff (column (drop a g) x) b
column_step g a b x c v p lt e h w =
    rw (h, w, drop-cons g a [] lt)
    (ap (λ q. coeff q b +ₚ x *ₚ coeff (column (drop (suc a) g) x) b) (found_is g a p lt e)
    ∙ sym (coeff-add (get_or g a []) _ b ∙ ap (λ u. coeff (get_or g a []) b +ₚ u) (coeff-scale x (column (drop (suc a) g) x) b)))

-- ---- the product added
-- one coefficient more
pub multiple_step : (f : Fp) (b : ℕ) (list v sums whole : List Fp) (c z : Fp) → slice_get list b ≡ Some c → z ≡ c +ₚ f *ₚ coeff v b → sums ++ multiple_added f b (drop b list) v ≡ whole →
    (sums ++ z ∷ []) ++ multiple_added f (b + 1) (drop (b + 1) list) v ≡ whole
multiple_step f b list v sums whole c z got hz h =
    let next : b + 1 ≡ suc b = omega arith in
    append_assoc sums (z ∷ []) (multiple_added f (b + 1) (drop (b + 1) list) v)
    ∙ ap₂ (λ x n. sums ++ (x ∷ multiple_added f n (drop (b + 1) list) v)) hz next
    ∙ ap (λ l. sums ++ multiple_added f b l v) (sym (drop_at list b c got)) ∙ h

pub length-multiple : (k : Fp) (b : ℕ) (p v : List Fp) → length (multiple_added k b p v) ≡ length p
length-multiple k b [] v = refl
length-multiple k b (c ∷ cs) v = ap suc (length-multiple k (suc b) cs v)

pub coeff-multiple : (k : Fp) (b : ℕ) (p v : List Fp) (j : ℕ) → j < length p → coeff (multiple_added k b p v) j ≡ coeff p j +ₚ k *ₚ coeff v (b + j)
coeff-multiple k b [] v j lt = absurd (omega arith)
coeff-multiple k b (c ∷ cs) v zero lt = ap (λ i. c +ₚ k *ₚ coeff v i) (let e : b ≡ b + 0 = omega arith in e)
coeff-multiple k b (c ∷ cs) v (suc j) lt =
    coeff-multiple k (suc b) cs v j (omega (arith, lt)) ∙ ap (λ i. coeff cs j +ₚ k *ₚ coeff v i) (let e : suc b + j ≡ b + suc j = omega arith in e)

pub length-product : (a : ℕ) (g : List (List Fp)) (u v : List Fp) → length (product_added a g u v) ≡ length g
length-product a [] u v = refl
length-product a (p ∷ ps) u v = ap suc (length-product (suc a) ps u v)

pub product_long : (n a : ℕ) (g : List (List Fp)) (u v : List Fp) → AllLong n g → AllLong n (product_added a g u v)
product_long n a [] u v h = λ k d lt. absurd (omega arith)
product_long n a (p ∷ ps) u v h =
    cons_long n (multiple_added (coeff u a) 0 p v) (product_added (suc a) ps u v) (length-multiple (coeff u a) 0 p v ∙ head_long n p ps h) (product_long n (suc a) ps u v (tail_long n p ps h))

pub coeff-product : (a : ℕ) (g : List (List Fp)) (u v : List Fp) (i j : ℕ) → i < length g → j < length (get_or g i []) →
    coefficient (product_added a g u v) i j ≡ coefficient g i j +ₚ coeff u (a + i) *ₚ coeff v j
coeff-product a [] u v i j li lj = absurd (omega arith)
coeff-product a (p ∷ ps) u v zero j li lj =
    coeff-multiple (coeff u a) 0 p v j lj ∙ ap₂ (λ s t. coeff p j +ₚ coeff u s *ₚ coeff v t) (let e : a ≡ a + 0 = omega arith in e) (let e : 0 + j ≡ j = omega arith in e)
coeff-product a (p ∷ ps) u v (suc i) j li lj =
    coeff-product (suc a) ps u v i j (omega (arith, li)) lj ∙ ap (λ s. coefficient ps i j +ₚ coeff u s *ₚ coeff v j) (let e : suc a + i ≡ a + suc i = omega arith in e)

eval_drop : (u : List Fp) (a : ℕ) (x : Fp) → eval (drop a u) x ≡ coeff u a +ₚ x *ₚ eval (drop (suc a) u) x
eval_drop [] zero x = sym (simp (mul_zero, add_zero))
eval_drop [] (suc a) x = sym (simp (mul_zero, add_zero))
eval_drop (c ∷ cs) zero x = refl
eval_drop (c ∷ cs) (suc a) x = eval_drop cs a x

multiple_ring : (c k v y p w : Fp) → (c +ₚ k *ₚ v) +ₚ y *ₚ (p +ₚ k *ₚ w) ≡ (c +ₚ y *ₚ p) +ₚ k *ₚ (v +ₚ y *ₚ w)
multiple_ring = by_dif6 _ (λ m n k l i j. simp difs (dif-same _ _ _ _ (omega arith)))

nothing : (u : List Fp) (x : Fp) → length u ≤ 0 → eval u x ≡ zeroₚ
nothing [] x le = refl
nothing (c ∷ cs) x le = absurd (omega (arith, le))

pub eval-multiple : (k : Fp) (b : ℕ) (p v : List Fp) (y : Fp) → length (drop b v) ≤ length p → eval (multiple_added k b p v) y ≡ eval p y +ₚ k *ₚ eval (drop b v) y
eval-multiple k b [] v y le = sym (rw (nothing (drop b v) y le) (simp (mul_zero, add_zero)))
eval-multiple k b (c ∷ cs) v y le =
    ap (λ t. (c +ₚ k *ₚ coeff v b) +ₚ y *ₚ t) (eval-multiple k (suc b) cs v y (omega (arith, le, length-drop b v, length-drop (suc b) v)))
    ∙ multiple_ring c k (coeff v b) y (eval cs y) (eval (drop (suc b) v) y)
    ∙ ap (λ t. (c +ₚ y *ₚ eval cs y) +ₚ k *ₚ t) (sym (eval_drop v b y))

product_ring : (p k v x g u : Fp) → (p +ₚ k *ₚ v) +ₚ x *ₚ (g +ₚ u *ₚ v) ≡ (p +ₚ x *ₚ g) +ₚ (k +ₚ x *ₚ u) *ₚ v
product_ring = by_dif6 _ (λ m n k l i j. simp difs (dif-same _ _ _ _ (omega arith)))

pub at-product : (n a : ℕ) (g : List (List Fp)) (u v : List Fp) (x y : Fp) → AllLong n g → length v ≤ n → length (drop a u) ≤ length g →
    grid_at (product_added a g u v) x y ≡ grid_at g x y +ₚ eval (drop a u) x *ₚ eval v y
at-product n a [] u v x y h lv lu = sym (rw (nothing (drop a u) x lu) (simp (zero_mul, add_zero)))
at-product n a (p ∷ ps) u v x y h lv lu =
    ap₂ (λ s t. s +ₚ x *ₚ t) (eval-multiple (coeff u a) 0 p v y (omega (arith, head_long n p ps h, lv)))
    (at-product n (suc a) ps u v x y (tail_long n p ps h) lv (omega (arith, lu, length-drop a u, length-drop (suc a) u)))
    ∙ product_ring (eval p y) (coeff u a) (eval v y) x (grid_at ps x y) (eval (drop (suc a) u) x)
    ∙ ap (λ t. (eval p y +ₚ x *ₚ grid_at ps x y) +ₚ t *ₚ eval v y) (sym (eval_drop u a x))

-- ---- steps of the loops
pub one_row_more : (n k : ℕ) (c p : List Fp) (rows new : List (List Fp)) → rows ≡ rows_of n k c → p ≡ take n (drop (k * n) c) → new ≡ rows ++ p ∷ [] → new ≡ rows_of n (k + 1) c
one_row_more n k c p rows new e h w =
    rw (w, e, h) (sym (rows_more n k c) ∙ ap (λ j. rows_of n j c) (let s : suc k ≡ k + 1 = omega arith in s))

pub one_coeff_more : (d : ℕ) (g : List (List Fp)) (x v : Fp) (b : ℕ) (done new : List Fp) → IsGrid d g → b < length g → done ≡ take b (column g x) → v ≡ coeff (column g x) b → new ≡ done ++ v ∷ [] →
    new ≡ take (b + 1) (column g x)
one_coeff_more d g x v b done new h lt e w s =
    let long : length (column g x) ≡ d + 1 = length-column_of (d + 1) g x (omega (arith, h.in_x)) h.in_y in
    rw (s, e, w) (sym (take_more (column g x) b zeroₚ (omega (arith, long, h.in_x, lt))))

pub all_coeffs : (d : ℕ) (g : List (List Fp)) (x : Fp) (b : ℕ) (done : List Fp) → IsGrid d g → length g ≤ b → done ≡ take b (column g x) → done ≡ column g x
all_coeffs d g x b done h le e =
    let long : length (column g x) ≡ d + 1 = length-column_of (d + 1) g x (omega (arith, h.in_x)) h.in_y in
    e ∙ take_all b (column g x) (omega (arith, long, h.in_x, le))

nothing_left : (a : ℕ) (g : List (List Fp)) (u v : List Fp) → length g ≤ a → product_added a (drop a g) u v ≡ []
nothing_left a g u v le = rw (drop_of_length-le g le)

pub product_whole : (a : ℕ) (g done : List (List Fp)) (u v : List Fp) → length g ≤ a → done ++ product_added a (drop a g) u v ≡ product_added 0 g u v → done ≡ product_added 0 g u v
product_whole a g done u v le e = sym (append-nil done) ∙ ap (λ ps. done ++ ps) (sym (nothing_left a g u v le)) ∙ e

pub product_grid : (d : ℕ) (g : List (List Fp)) (u v : List Fp) → IsGrid d g → IsGrid d (product_added 0 g u v)
product_grid d g u v h = record { limit = h.limit; in_x = length-product 0 g u v ∙ h.in_x; in_y = product_long (d + 1) 0 g u v h.in_y }

pub product_coeffs : (d : ℕ) (g : List (List Fp)) (u v : List Fp) (a b : ℕ) → IsGrid d g → a < length g → b < length g →
    coefficient (product_added 0 g u v) a b ≡ coefficient g a b +ₚ coeff u a *ₚ coeff v b
product_coeffs d g u v a b h la lb =
    coeff-product 0 g u v a b la (omega (arith, h.in_y a [] la, h.in_x, lb))
    ∙ ap (λ s. coefficient g a b +ₚ coeff u s *ₚ coeff v b) (let e : 0 + a ≡ a = omega arith in e)

pub product_values : (d : ℕ) (g : List (List Fp)) (u v : List Fp) (x y : Fp) → IsGrid d g → length u ≤ length g → length v ≤ length g →
    grid_at (product_added 0 g u v) x y ≡ grid_at g x y +ₚ eval u x *ₚ eval v y
product_values d g u v x y h lu lv = at-product (d + 1) 0 g u v x y h.in_y (omega (arith, lv, h.in_x)) lu
