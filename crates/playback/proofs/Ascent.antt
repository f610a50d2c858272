-- The test of a recorded phase.
use Rattle.std.proofs.Common.{◌≡◌, ℕ, ◌+◌, ◌-◌, ◌<◌, ◌≤◌, Bool, true, ◌&&◌, List, [], ◌∷◌, length, drop, get_or, refl, sym, ap, ◌∙◌, arith}
use Rattle.std.proofs.lemmas.List.{length-drop}
use Rattle.talk.specs.Read.{ascends}
use Rattle.playback.proofs.Places.{drop_item}

module _ {A : Type 0} (before : A → A → Bool) where
  two_ascend : (x y : A) (zs : List A) → before x y ≡ true → ascends before (x ∷ y ∷ zs) ≡ ascends before (y ∷ zs)
  two_ascend x y zs e = ap (λ b. b && ascends before (y ∷ zs)) e

  -- one item more
  pub ascend_step : (xs : List A) (k : ℕ) (x y : A) (whole : Bool) → 1 ≤ k → k < length xs → x ≡ get_or xs (k - 1) x → y ≡ get_or xs k y → before x y ≡ true → whole ≡ ascends before (drop (k - 1) xs) →
      whole ≡ ascends before (drop (k + 1 - 1) xs)
  ascend_step xs k x y whole from lt ex ey pass e =
      let back : k - 1 + 1 ≡ k = omega (arith, from) in
      let next : k + 1 - 1 ≡ k = omega arith in
      let rest : drop k xs ≡ y ∷ drop (k + 1) xs = drop_item xs k y lt ey in
      e
      ∙ ap (ascends before) (drop_item xs (k - 1) x (omega (arith, from, lt)) ex ∙ ap (λ (l : List A). x ∷ l) (ap (λ n. drop n xs) back ∙ rest))
      ∙ two_ascend x y (drop (k + 1) xs) pass
      ∙ ap (ascends before) (sym rest ∙ ap (λ n. drop n xs) (sym next))

  short_ascends : (zs : List A) → length zs ≤ 1 → ascends before zs ≡ true
  short_ascends [] le = refl
  short_ascends (x ∷ []) le = refl
  short_ascends (x ∷ y ∷ zs) le = absurd (omega (arith, le))

  -- and at the end
  pub ascend_end : (xs : List A) (k : ℕ) (whole : Bool) → 1 ≤ k → length xs ≤ k → whole ≡ ascends before (drop (k - 1) xs) → true ≡ whole
  ascend_end xs k whole from le e = sym (e ∙ short_ascends (drop (k - 1) xs) (omega (arith, from, le, length-drop (k - 1) xs)))

-- an item that doesn't come before the next
