-- Lists in parts of five, one for each number that a set leaves out.
use Rattle.std.proofs.Common.{inl, inr, ◌≡◌, ℕ, zero, suc, ◌+◌, ◌-◌, ◌*◌, ◌<◌, ◌≤◌, Bool, true, false, not, cond, List, [], ◌∷◌, ◌++◌, length, map, get_or, take, All, refl, sym, ap, ap₂, ◌∙◌, subst, arith, append-nil}
use Rattle.std.specs.List.{flat_map}
use Rattle.std.proofs.lemmas.List.Elements.{All-nil, All-cons, All-append}
use Rattle.sharing61.specs.Count.{how_many}
use Rattle.plays.specs.Said.{places, points_up_to}
use Rattle.plays.proofs.Lists.{points_more}
use Rattle.histories61.proofs.Lists.{map_same}

length-both : {A : Type 0} (xs ys : List A) → length (xs ++ ys) ≡ length xs + length ys
length-both [] ys = omega arith
length-both (x ∷ xs) ys = omega (arith, length-both xs ys)

-- five for each number of 1 to n that isn't in the set
abbrev pub parts : {A : Type 0} → (ℕ → Bool) → (ℕ → ℕ → A) → ℕ → List A
parts set f n = flat_map (λ k. cond (set k) [] (map (f k) (places 5))) (points_up_to n)

module _ {A : Type 0} (set : ℕ → Bool) where
  abbrev part : (ℕ → ℕ → A) → ℕ → List A
  part f k = cond (set k) [] (map (f k) (places 5))

  parts_more : (f : ℕ → ℕ → A) (n : ℕ) → parts set f (suc n) ≡ parts set f n ++ part f (suc n)
  parts_more f n =
      let one : n + 1 ≡ suc n = omega arith in
      ap (λ k. flat_map (part f) (points_up_to k)) (sym one) ∙ points_more (part f) n ∙ ap (λ k. parts set f n ++ part f k) one

  length-part : (f : ℕ → ℕ → A) (k : ℕ) (b : Bool) → length (cond b [] (map (f k) (places 5))) ≡ 5 * cond (not b) 1 0
  length-part f k true = omega arith
  length-part f k false = omega arith

  pub length-parts : (f : ℕ → ℕ → A) (n : ℕ) → length (parts set f n) ≡ 5 * how_many n (λ k. not (set k))
  length-parts f zero = omega arith
  length-parts f (suc n) = ap length (parts_more f n) ∙ length-both (parts set f n) (part f (suc n)) ∙ omega (arith, length-parts f n, length-part f (suc n) (set (suc n)))

  -- ---- a fact of each
  all_five : (P : A → Type 0) (g : ℕ → A) → ((l : ℕ) → l < 5 → P (g l)) → All P (map g (places 5))
  all_five P g h =
      All-cons P (g 0) (g 1 ∷ g 2 ∷ g 3 ∷ g 4 ∷ []) (h 0 (omega arith))
      (All-cons P (g 1) (g 2 ∷ g 3 ∷ g 4 ∷ []) (h 1 (omega arith))
      (All-cons P (g 2) (g 3 ∷ g 4 ∷ []) (h 2 (omega arith)) (All-cons P (g 3) (g 4 ∷ []) (h 3 (omega arith)) (All-cons P (g 4) [] (h 4 (omega arith)) (All-nil P)))))

  all_part : (P : A → Type 0) (g : ℕ → A) (b : Bool) → (b ≡ false → (l : ℕ) → l < 5 → P (g l)) → All P (cond b [] (map g (places 5)))
  all_part P g true h = All-nil P
  all_part P g false h = all_five P g (h refl)

  pub all_parts : (P : A → Type 0) (f : ℕ → ℕ → A) (n : ℕ) → ((k l : ℕ) → 1 ≤ k → k ≤ n → set k ≡ false → l < 5 → P (f k l)) → All P (parts set f n)
  all_parts P f zero h = All-nil P
  all_parts P f (suc n) h =
      subst (All P) (sym (parts_more f n))
      (All-append P (parts set f n) (part f (suc n)) (all_parts P f n (λ k l a b up l5. h k l a (omega (arith, b)) up l5)) (all_part P (f (suc n)) (set (suc n)) (λ up l l5. h (suc n) l (omega arith) (omega arith) up l5)))

  -- ---- a list read in parts is its front
  take_five : (m : ℕ) (xs : List A) (d : A) → m + 5 ≤ length xs → take (m + 5) xs ≡ take m xs ++ map (λ l. get_or xs (m + l) d) (places 5)
  take_five zero [] d le = absurd (omega (arith, le))
  take_five zero (a ∷ []) d le = absurd (omega (arith, le))
  take_five zero (a ∷ b ∷ []) d le = absurd (omega (arith, le))
  take_five zero (a ∷ b ∷ c ∷ []) d le = absurd (omega (arith, le))
  take_five zero (a ∷ b ∷ c ∷ e ∷ []) d le = absurd (omega (arith, le))
  take_five zero (a ∷ b ∷ c ∷ e ∷ f ∷ xs) d le = refl
  take_five (suc m) [] d le = absurd (omega (arith, le))
  take_five (suc m) (x ∷ xs) d le =
      let s : suc m + 5 ≡ suc (m + 5) = omega arith in
      ap (λ n. take n (x ∷ xs)) s
      ∙ ap (λ (ys : List A). x ∷ ys)
      (take_five m xs d (omega (arith, le))
      ∙ ap (λ (ys : List A). take m xs ++ ys)
      (map_same (λ l. get_or xs (m + l) d) (λ l. get_or (x ∷ xs) (suc m + l) d) 5 0 (λ l a b. let e : suc (m + l) ≡ suc m + l = omega arith in ap (λ n. get_or (x ∷ xs) n d) e)))

  front_part : (b : Bool) (m : ℕ) (xs : List A) (d : A) → m + 5 * cond (not b) 1 0 ≤ length xs → take m xs ++ cond b [] (map (λ l. get_or xs (m + l) d) (places 5)) ≡ take (m + 5 * cond (not b) 1 0) xs
  front_part true m xs d le = append-nil (take m xs) ∙ (let e : m ≡ m + 5 * 0 = omega arith in ap (λ n. take n xs) e)
  front_part false m xs d le = sym (take_five m xs d (omega (arith, le)))

  abbrev at_place : List A → A → ℕ → ℕ → A
  at_place xs d k l = get_or xs (5 * how_many (k - 1) (λ k. not (set k)) + l) d

  pub front_parts : (n : ℕ) (xs : List A) (d : A) → 5 * how_many n (λ k. not (set k)) ≤ length xs → parts set (λ k l. get_or xs (5 * how_many (k - 1) (λ k. not (set k)) + l) d) n ≡ take (5 * how_many n (λ k. not (set k))) xs
  front_parts zero xs d le = refl
  front_parts (suc n) xs d le =
      let m : suc n - 1 ≡ n = omega arith in
      let sum : 5 * how_many n (λ k. not (set k)) + 5 * cond (not (set (suc n))) 1 0 ≡ 5 * how_many (suc n) (λ k. not (set k)) = omega arith in
      parts_more (at_place xs d) n
      ∙ ap₂ (λ (ys : List A) (i : ℕ). ys ++ cond (set (suc n)) [] (map (λ l. get_or xs (5 * how_many i (λ k. not (set k)) + l) d) (places 5))) (front_parts n xs d (omega (arith, le))) m
      ∙ front_part (set (suc n)) (5 * how_many n (λ k. not (set k))) xs d (omega (arith, le, sum))
      ∙ ap (λ i. take i xs) sum
