-- The masks of a run, one after the other.
use Rattle.std.proofs.Common.{◌≡◌, ℕ, zero, suc, ◌+◌, ◌-◌, ◌≤◌, List, [], ◌∷◌, ◌++◌, length, refl, sym, ap, ◌∙◌, arith}
use Rattle.turns.specs.Turns.{tabulate}

-- ---- the values of a function at so many numbers
tabulated_more : {A : Type 0} (f : ℕ → A) (k n : ℕ) → tabulate k (suc n) f ≡ tabulate k n f ++ f (k + n) ∷ []
tabulated_more f k zero = let e : k ≡ k + 0 = omega arith in ap (λ (i : ℕ). f i ∷ []) e
tabulated_more f k (suc n) =
    let e : (k + 1) + n ≡ k + suc n = omega arith in
    ap (λ xs. f k ∷ xs) (tabulated_more f (k + 1) n ∙ ap (λ (i : ℕ). tabulate (k + 1) n f ++ f i ∷ []) e)

pub length-tabulate : {A : Type 0} (k n : ℕ) (f : ℕ → A) → length (tabulate k n f) ≡ n
length-tabulate k zero f = refl
length-tabulate k (suc n) f = ap suc (length-tabulate (k + 1) n f)

-- with one round more
pub one_more_mask : (f : ℕ → ℕ) (masks : List ℕ) (round : ℕ) → 1 ≤ round → masks ≡ tabulate 0 (round - 1) f → masks ++ f (round - 1) ∷ [] ≡ tabulate 0 round f
one_more_mask f masks zero some is = absurd (omega (arith, some))
one_more_mask f masks (suc n) some is =
    let before : suc n - 1 ≡ n = omega arith in
    let place : 0 + n ≡ n = omega arith in
    ap (λ (k : ℕ). masks ++ f k ∷ []) before ∙ ap (λ ms. ms ++ f n ∷ []) (is ∙ ap (λ (k : ℕ). tabulate 0 k f) before)
    ∙ ap (λ (k : ℕ). tabulate 0 n f ++ f k ∷ []) (sym place) ∙ sym (tabulated_more f 0 n)
