-- What is made of the members that have shares.
use Rattle.std.proofs.Common.{◌≡◌, ℕ, zero, suc, ◌+◌, ◌<◌, Bool, true, false, not, cond, List, [], ◌∷◌, ◌++◌, length, map, get_or, drop, Option, Some, None, refl, sym, ap, ◌∙◌, append_assoc}
use Rattle.std.specs.List.{range_with_len, filter}
use Rattle.std.proofs.lemmas.List.{drop_more}
use Rattle.algebra61.specs.Field.{Fp}
use Rattle.commands.specs.Phase.{unless_down, each_given}

module _ {B : Type 0} where
  one_given : (f : ℕ → List Fp → B) (g : ℕ → List Fp) (a : ℕ) (b : Bool) (rest : List (Option (List Fp))) (js : List ℕ) → each_given f (a + 1) rest ≡ map (λ j. f j (g j)) js →
      each_given f a (unless_down b (g a) ∷ rest) ≡ map (λ j. f j (g j)) (cond (not b) (a ∷ js) js)
  one_given f g a true rest js e = e
  one_given f g a false rest js e = ap (λ (ys : List B). f a (g a) ∷ ys) e

  -- of the members that aren't down
  pub given_same : (f : ℕ → List Fp → B) (g : ℕ → List Fp) (test : ℕ → Bool) (a n : ℕ) →
      each_given f a (map (λ j. unless_down (test j) (g j)) (range_with_len a n)) ≡ map (λ j. f j (g j)) (filter (λ j. not (test j)) (range_with_len a n))
  given_same f g test a zero = refl
  given_same f g test a (suc n) = one_given f g a (test a) (map (λ j. unless_down (test j) (g j)) (range_with_len (a + 1) n)) (filter (λ j. not (test j)) (range_with_len (a + 1) n)) (given_same f g test (a + 1) n)

module _ {A B : Type 0} where
  first_given : (f : ℕ → A → B) (index : ℕ) (x : Option A) (rest : List (Option A)) → each_given f index (x ∷ rest) ≡ each_given f index (x ∷ []) ++ each_given f (index + 1) rest
  first_given f index None rest = refl
  first_given f index (Some x) rest = refl

  -- one more member in a loop: done so far, then the rest
  pub given_more : (f : ℕ → A → B) (k index : ℕ) (x : Option A) (xs : List (Option A)) (first old new : List B) → k < length xs → x ≡ get_or xs k x →
      old ++ each_given f index (drop k xs) ≡ first ++ each_given f 1 xs → new ≡ old ++ each_given f index (x ∷ []) →
      new ++ each_given f (index + 1) (drop (k + 1) xs) ≡ first ++ each_given f 1 xs
  given_more f k index x xs first old new lt at so_far pushed =
      let split : drop k xs ≡ x ∷ drop (k + 1) xs = drop_more xs k x lt ∙ ap (λ (y : Option A). y ∷ drop (k + 1) xs) (sym at) in
      ap (λ (ys : List B). ys ++ each_given f (index + 1) (drop (k + 1) xs)) pushed
      ∙ append_assoc old (each_given f index (x ∷ [])) (each_given f (index + 1) (drop (k + 1) xs))
      ∙ ap (λ (ys : List B). old ++ ys) (sym (first_given f index x (drop (k + 1) xs)) ∙ ap (each_given f index) (sym split))
      ∙ so_far
