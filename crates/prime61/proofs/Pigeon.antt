-- The pigeonhole principle.
use Rattle.std.proofs.Common.{◌≡◌, ◌≢◌, ℕ, zero, suc, ◌<◌, ◌⊎◌, inl, inr, sym, ap, ◌∙◌, arith, cond, eqb}
use Rattle.std.proofs.lemmas.Bool.{cases_eq, cases_lt}

-- two places below n with one value
pub record Clash (f : ℕ → ℕ) (n : ℕ) : Type 0 where
  pub i : ℕ
  pub j : ℕ
  pub apart : i < j
  pub below : j < n
  pub same : f i ≡ f j

-- a place below n with the value v
abbrev Seen : (ℕ → ℕ) → ℕ → ℕ → Type 0
Seen f v n = (i : ℕ) × (i < n) × (f i ≡ v)

seek_last : (f : ℕ → ℕ) (v n i : ℕ) → ((i : ℕ) → i < n → f i ≢ v) → (f n ≡ v → ⊥) → i < suc n → f i ≢ v
seek_last f v n i differ ne h e =
    elim (cases_lt i n) [ inl lt ↦ differ i lt e | inr ge ↦ ne (ap f (omega arith) ∙ e) ]

seek : (f : ℕ → ℕ) (v n : ℕ) → (Seen f v n) ⊎ ((i : ℕ) → i < n → f i ≢ v)
seek f v zero = inr (λ i h e. omega arith)
seek f v (suc n) =
    elim (seek f v n) [
      | inl s ↦ inl (s.0, omega (arith, s.1), s.2)
      | inr differ ↦ elim (cases_eq (f n) v) [
        | inl e ↦ inl (n, omega arith, e)
        | inr ne ↦ inr (λ i h e. seek_last f v n i differ ne h e)
      ]
    ]

-- f with the value v in place of m
abbrev renamed : (ℕ → ℕ) → ℕ → ℕ → ℕ → ℕ
renamed f m v i = cond (eqb (f i) m) v (f i)

renamed_at : (f : ℕ → ℕ) (m v i : ℕ) → ((f i ≡ m) × (renamed f m v i ≡ v)) ⊎ ((f i ≢ m) × (renamed f m v i ≡ f i))
renamed_at f m v i =
    elim (cases_eq (f i) m) [ inl e ↦ inl (e, grind arith) | inr ne ↦ inr (ne, grind arith) ]

unrename : (f : ℕ → ℕ) (m v i j : ℕ) → f i ≢ v → f j ≢ v → renamed f m v i ≡ renamed f m v j → f i ≡ f j
unrename f m v i j p q e =
    elim (renamed_at f m v i) [
      | inl s ↦ elim (renamed_at f m v j) [ inl t ↦ s.0 ∙ sym t.0 | inr t ↦ absurd (q (sym t.1 ∙ sym e ∙ s.1)) ]
      | inr s ↦ elim (renamed_at f m v j) [ inl t ↦ absurd (p (sym s.1 ∙ e ∙ t.1)) | inr t ↦ sym s.1 ∙ e ∙ t.1 ]
    ]

renamed_below : (f : ℕ → ℕ) (m n : ℕ) → ((i : ℕ) → i < n → f i ≢ f n) → ((i : ℕ) → i < suc n → f i < suc m) → (i : ℕ) → i < n → renamed f m (f n) i < m
renamed_below f m n differ h i lt =
    elim (renamed_at f m (f n) i) [
      | inl s ↦ let ne : f n ≢ m = λ e. differ i lt (s.0 ∙ sym e) in
          omega (arith, s.1, ne, h n (omega arith))
      | inr s ↦ omega (arith, s.0, s.1, h i (omega arith))
    ]

lift_clash : (f : ℕ → ℕ) (m n : ℕ) → ((i : ℕ) → i < n → f i ≢ f n) → Clash (renamed f m (f n)) n → Clash f (suc n)
lift_clash f m n differ c =
    record { i = c.i; j = c.j; apart = c.apart; below = omega (arith, c.below); same = unrename f m (f n) c.i c.j (differ c.i (omega (arith, c.apart, c.below))) (differ c.j c.below) c.same }

-- n values below m clash where m < n
pub pigeon : (m n : ℕ) (f : ℕ → ℕ) → ((i : ℕ) → i < n → f i < m) → m < n → Clash f n
pigeon zero n f h lt = absurd (omega (arith, h 0 lt))
pigeon (suc m) zero f h lt = absurd (omega arith)
pigeon (suc m) (suc n) f h lt =
    elim (seek f (f n) n) [
      | inl s ↦ record { i = s.0; j = n; apart = s.1; below = omega arith; same = s.2 }
      | inr differ ↦ lift_clash f m n differ (pigeon m n (renamed f m (f n)) (renamed_below f m n differ h) (omega arith))
    ]
