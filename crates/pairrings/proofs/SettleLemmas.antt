-- Two elements of a list, one in each part, were changed.
use Rattle.std.proofs.Common.{◌≡◌, ℕ, zero, suc, ◌+◌, ◌<◌, ◌≤◌, List, [], ◌∷◌, ◌++◌, length, take, drop, get_or, set, map, sym, refl, ap, arith, ◌∙◌, subst, length-append, length-set, length-drop}
use Rattle.std.proofs.lemmas.List.{length-take}

module _ {A : Type 0} (R : A → A → Type 0) (same : (x : A) → R x x) where
  one_set : (xs : List A) (j : ℕ) (y new : A) → j < length xs → y ≡ get_or (drop j xs) 0 y → R y new →
      (k : ℕ) (d : A) → R (get_or xs k d) (get_or (take j xs ++ set (drop j xs) 0 new) k d)
  one_set [] j y new lt is h k d = absurd (omega arith)
  one_set (z ∷ zs) zero y new lt is h zero d = subst (λ w. R w new) is h
  one_set (z ∷ zs) zero y new lt is h (suc k) d = same (get_or zs k d)
  one_set (z ∷ zs) (suc j) y new lt is h zero d = same z
  one_set (z ∷ zs) (suc j) y new lt is h (suc k) d = one_set zs j y new (omega (arith, lt)) is h k d

  -- a relation that holds of both, and of each element and itself, holds place by place
  pub two_set : (xs : List A) (i j : ℕ) (x y left right : A) → i < j → j < length xs → x ≡ get_or (take j xs) i x → y ≡ get_or (drop j xs) 0 y → R x left → R y right →
      (k : ℕ) (d : A) → R (get_or xs k d) (get_or (set (take j xs) i left ++ set (drop j xs) 0 right) k d)
  two_set [] i j x y left right ij jl ex ey hx hy k d = absurd (omega arith)
  two_set (z ∷ zs) i zero x y left right ij jl ex ey hx hy k d = absurd (omega arith)
  two_set (z ∷ zs) zero (suc j) x y left right ij jl ex ey hx hy zero d = subst (λ w. R w left) ex hx
  two_set (z ∷ zs) zero (suc j) x y left right ij jl ex ey hx hy (suc k) d = one_set zs j y right (omega (arith, jl)) ey hy k d
  two_set (z ∷ zs) (suc i) (suc j) x y left right ij jl ex ey hx hy zero d = same z
  two_set (z ∷ zs) (suc i) (suc j) x y left right ij jl ex ey hx hy (suc k) d =
      two_set zs i j x y left right (omega (arith, ij)) (omega (arith, jl)) ex ey hx hy k d

module _ {A T : Type 0} (f : A → T) where
  one_map : (xs : List A) (j : ℕ) (y new : A) → j < length xs → y ≡ get_or (drop j xs) 0 y → f new ≡ f y → map f (take j xs ++ set (drop j xs) 0 new) ≡ map f xs
  one_map [] j y new lt is h = absurd (omega arith)
  one_map (z ∷ zs) zero y new lt is h = ap (λ t. t ∷ map f zs) (h ∙ ap f is)
  one_map (z ∷ zs) (suc j) y new lt is h = ap (λ ts. f z ∷ ts) (one_map zs j y new (omega (arith, lt)) is h)

  -- what can't tell the new elements from the old ones reads the same
  pub two_map : (xs : List A) (i j : ℕ) (x y left right : A) → i < j → j < length xs → x ≡ get_or (take j xs) i x → y ≡ get_or (drop j xs) 0 y → f left ≡ f x → f right ≡ f y →
      map f (set (take j xs) i left ++ set (drop j xs) 0 right) ≡ map f xs
  two_map [] i j x y left right ij jl ex ey hx hy = absurd (omega arith)
  two_map (z ∷ zs) i zero x y left right ij jl ex ey hx hy = absurd (omega arith)
  two_map (z ∷ zs) zero (suc j) x y left right ij jl ex ey hx hy =
      ap (λ t. t ∷ map f (take j zs ++ set (drop j zs) 0 right)) (hx ∙ ap f ex) ∙ ap (λ ts. f z ∷ ts) (one_map zs j y right (omega (arith, jl)) ey hy)
  two_map (z ∷ zs) (suc i) (suc j) x y left right ij jl ex ey hx hy =
      ap (λ ts. f z ∷ ts) (two_map zs i j x y left right (omega (arith, ij)) (omega (arith, jl)) ex ey hx hy)

pub two_length : {A : Type 0} (xs : List A) (i j : ℕ) (left right : A) → j < length xs → length (set (take j xs) i left ++ set (drop j xs) 0 right) ≡ length xs
two_length xs i j left right jl =
    omega (arith, length-append (set (take j xs) i left) (set (drop j xs) 0 right), length-set (take j xs) i left, length-set (drop j xs) 0 right, length-take j xs, length-drop j xs)

-- the elements of the two parts are those of the whole
pub in_left : {A : Type 0} (xs : List A) (i j : ℕ) (x : A) → i < j → x ≡ get_or (take j xs) i x → x ≡ get_or xs i x
in_left [] i zero x lt e = absurd (omega arith)
in_left [] i (suc j) x lt e = e
in_left (z ∷ zs) i zero x lt e = absurd (omega arith)
in_left (z ∷ zs) zero (suc j) x lt e = e
in_left (z ∷ zs) (suc i) (suc j) x lt e = in_left zs i j x (omega (arith, lt)) e

pub in_right : {A : Type 0} (xs : List A) (j : ℕ) (y : A) → y ≡ get_or (drop j xs) 0 y → y ≡ get_or xs j y
in_right [] zero y e = e
in_right [] (suc j) y e = e
in_right (z ∷ zs) zero y e = e
in_right (z ∷ zs) (suc j) y e = in_right zs j y e
