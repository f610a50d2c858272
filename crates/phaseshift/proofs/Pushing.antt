-- Grids put at the end of a list, lane by lane; answers that may fail.
use Rattle.std.proofs.Common.{◌≡◌, ℕ, ◌+◌, List, [], ◌∷◌, ◌++◌, map, refl, ap, ◌∙◌, append_assoc}
use Rattle.std.specs.Prelude.{Result, Ok, Err, IfOk}
use Rattle.plays.specs.Said.{places}
use Rattle.playback.proofs.Places.{places_append}

pub both_ok : {A E : Type 0} (P Q R : A → Type 0) (r : Result A E) → ((a : A) → P a → Q a → R a) → IfOk r P → IfOk r Q → IfOk r R
both_ok P Q R (Ok a) f p q = f a p q
both_ok P Q R (Err e) f p q = tt

-- one lane more
pub lane_step : {A : Type 0} (f : ℕ → A) (k : ℕ) (old xs ys : List A) (x : A) → xs ≡ old ++ map f (places k) → ys ≡ xs ++ x ∷ [] → x ≡ f k → ys ≡ old ++ map f (places (k + 1))
lane_step {A} f k old xs ys x e ey ex =
    ey
    ∙ ap (λ (zs : List A). zs ++ x ∷ []) e
    ∙ append_assoc old (map f (places k)) (x ∷ [])
    ∙ ap (λ (zs : List A). old ++ zs) (places_append f k (map f (places k)) (map f (places k) ++ x ∷ []) x refl refl ex)
