-- The run by masks from the newest is the run by masks from the first.
use Rattle.std.proofs.Common.{◌≡◌, ℕ, zero, suc, ◌+◌, ◌-◌, ◌<◌, ◌≤◌, List, [], ◌∷◌, ◌++◌, length, get_or, map, reverse, refl, sym, ap, ap₂, ◌∙◌, subst, arith}
use Rattle.std.proofs.lemmas.List.{reverse-append, length-reverse}
use Rattle.talk.specs.declared.messages.Say.{Say}
use Rattle.talk.specs.Shape.{Shape}
use Rattle.talk.specs.Sync.{Ways, words_of, after_round, sync, IsMask, last_mask, Allowed, AllAllowed}
use Rattle.turns.specs.Turns.{tabulate, mask_before, sync_back, AllowedBack}
use Rattle.turns.specs.Account.{masks_back}

pub last_snoc : (before m : ℕ) (xs : List ℕ) → last_mask before (xs ++ m ∷ []) ≡ m
last_snoc before m [] = refl
last_snoc before m (x ∷ xs) = last_snoc x m xs

last_reverse : (before : ℕ) (masks : List ℕ) → last_mask before (reverse masks) ≡ mask_before before masks
last_reverse before [] = refl
last_reverse before (m ∷ ms) = ap (last_mask before) (reverse-append (m ∷ []) ms) ∙ last_snoc before m (reverse ms)

module _ {M : Type 0} (w : Ways M) (s : Shape) where
  sync_snoc : (r m : ℕ) (xs : List ℕ) (minds : List M) → sync w s r (xs ++ m ∷ []) minds ≡ after_round w s (r + length xs) m (sync w s r xs minds)
  sync_snoc r m [] minds = let z : r ≡ r + 0 = omega arith in ap (λ x. after_round w s x m minds) z
  sync_snoc r m (x ∷ xs) minds =
      let z : (r + 1) + length xs ≡ r + suc (length xs) = omega arith in
      sync_snoc (r + 1) m xs (after_round w s r x minds) ∙ ap (λ y. after_round w s y m (sync w s (r + 1) xs (after_round w s r x minds))) z

  allowed_snoc : (cut : ℕ → ℕ) (r before m : ℕ) (xs : List ℕ) (minds : List M) → AllAllowed w s r before cut xs minds → IsMask s m → Allowed (last_mask before xs) m (cut (r + length xs)) 1 (words_of w (r + length xs) (sync w s r xs minds)) → AllAllowed w s r before cut (xs ++ m ∷ []) minds
  allowed_snoc cut r before m [] minds h small one =
      let z : r + 0 ≡ r = omega arith in
      (small, subst (λ (x : ℕ). Allowed before m (cut x) 1 (words_of w x minds)) z one, tt)
  allowed_snoc cut r before m (x ∷ xs) minds h small one =
      let z : r + suc (length xs) ≡ (r + 1) + length xs = omega arith in (
        h.0,
        h.1,
        allowed_snoc cut (r + 1) x m xs (after_round w s r x minds) h.2 small
            (subst (λ (y : ℕ). Allowed (last_mask x xs) m (cut y) 1 (words_of w y (sync w s (r + 1) xs (after_round w s r x minds)))) z one),
      )

  round_of : (ms : List ℕ) → 1 + length (reverse ms) ≡ length ms + 1
  round_of ms = let e : length (reverse ms) ≡ length ms = length-reverse ms in omega (arith, e)

  pub sync_forward : (masks : List ℕ) (minds : List M) → sync_back w s masks minds ≡ sync w s 1 (reverse masks) minds
  sync_forward [] minds = refl
  sync_forward (m ∷ ms) minds =
      ap (after_round w s (length ms + 1) m) (sync_forward ms minds)
      ∙ ap (λ x. after_round w s x m (sync w s 1 (reverse ms) minds)) (sym (round_of ms))
      ∙ sym (sync_snoc 1 m (reverse ms) minds)
      ∙ ap (λ xs. sync w s 1 xs minds) (sym (reverse-append (m ∷ []) ms))

  pub allowed_forward : (everyone : ℕ) (cut : ℕ → ℕ) (masks : List ℕ) (minds : List M) → AllowedBack w s everyone cut masks minds → AllAllowed w s 1 everyone cut (reverse masks) minds
  allowed_forward everyone cut [] minds h = tt
  allowed_forward everyone cut (m ∷ ms) minds h =
      subst (λ (xs : List ℕ). AllAllowed w s 1 everyone cut xs minds) (sym (reverse-append (m ∷ []) ms))
      (allowed_snoc cut 1 everyone m (reverse ms) minds (allowed_forward everyone cut ms minds h.0) h.1
      (subst (λ (z : ℕ × ℕ × List M). Allowed z.0 m (cut z.1) 1 (words_of w z.1 z.2))
      (λ i. (sym (last_reverse everyone ms) i, sym (round_of ms) i, sync_forward ms minds i)) h.2))

-- a list is what stands at its places
tabulate_at : {A : Type 0} (d : A) (seat n : ℕ) (xs : List A) (f : ℕ → A) → length xs ≡ n → ((i : ℕ) → i < n → get_or xs i d ≡ f (seat + i)) → xs ≡ tabulate seat n f
tabulate_at d seat zero [] f e h = refl
tabulate_at d seat zero (x ∷ xs) f e h = absurd (omega (arith, e))
tabulate_at d seat (suc n) [] f e h = absurd (omega (arith, e))
tabulate_at {A} d seat (suc n) (x ∷ xs) f e h =
    let z : seat + 0 ≡ seat = omega arith in
    ap₂ (λ (a : A) (b : List A). a ∷ b) (h 0 (omega arith) ∙ ap f z)
    (tabulate_at d (seat + 1) n xs f (omega (arith, e))
    (λ i lt. let next : seat + suc i ≡ (seat + 1) + i = omega arith in h (suc i) (omega (arith, lt)) ∙ ap f next))

pub tabulate_of : {A : Type 0} (d : A) (n : ℕ) (xs : List A) → length xs ≡ n → xs ≡ tabulate 1 n (λ k. get_or xs (k - 1) d)
tabulate_of d n xs e = tabulate_at d 1 n xs (λ k. get_or xs (k - 1) d) e (λ i lt. let z : i ≡ (1 + i) - 1 = omega arith in ap (λ k. get_or xs k d) z)

tabulate_snoc : {A : Type 0} (seat n : ℕ) (f : ℕ → A) → tabulate seat (suc n) f ≡ tabulate seat n f ++ f (seat + n) ∷ []
tabulate_snoc seat zero f = let z : seat ≡ seat + 0 = omega arith in ap (λ k. f k ∷ []) z
tabulate_snoc seat (suc n) f =
    let z : (seat + 1) + n ≡ seat + suc n = omega arith in
    ap (λ xs. f seat ∷ xs) (tabulate_snoc (seat + 1) n f ∙ ap (λ k. tabulate (seat + 1) n f ++ f k ∷ []) z)

-- the masks from the first round on
pub masks_forward : (mask : ℕ → ℕ) (n : ℕ) → reverse (masks_back mask n) ≡ tabulate 0 n mask
masks_forward mask zero = refl
masks_forward mask (suc n) =
    let z : n ≡ 0 + n = omega arith in
    reverse-append (mask n ∷ []) (masks_back mask n) ∙ ap (λ xs. xs ++ mask n ∷ []) (masks_forward mask n) ∙ ap (λ k. tabulate 0 n mask ++ mask k ∷ []) z ∙ sym (tabulate_snoc 0 n mask)
