-- Lists made place by place.
use Rattle.std.proofs.Common.{◌≡◌, ℕ, ◌+◌, ◌-◌, ◌≤◌, List, [], ◌∷◌, ◌++◌, sym, ap, ap₂, ◌∙◌, arith, append_assoc, add-one}
use Rattle.std.specs.List.{flat_map, range_with_len}
use Rattle.std.proofs.lemmas.List.Concat.{flat_map-append}
use Rattle.algebra61.specs.Field.{Fp}
use Rattle.sharing61.specs.declared.Crossing.{Crossing}
pub use Rattle.talk.proofs.Places.{places_step}
use Rattle.talk.proofs.Places.{range_more, flat_more}
use Rattle.std.proofs.lemmas.List.{append-nil}
use Rattle.plays.specs.Said.{points_up_to, cross_list, crossing_values}

pub cross_more : (n : ℕ) (f : ℕ → Crossing) (xs : List Fp) → xs ≡ cross_list n f → (xs ++ (f n).row ∷ []) ++ (f n).column ∷ [] ≡ cross_list (n + 1) f
cross_more n f xs e =
    append_assoc xs ((f n).row ∷ []) ((f n).column ∷ []) ∙ ap (λ ys. ys ++ crossing_values (f n)) e ∙ sym (flat_more (λ i. crossing_values (f i)) n)

pub cross_step : (n : ℕ) (f : ℕ → Crossing) (xs ys zs : List Fp) (u v : Fp) → xs ≡ cross_list n f → ys ≡ xs ++ u ∷ [] → zs ≡ ys ++ v ∷ [] → u ≡ (f n).row → v ≡ (f n).column → zs ≡ cross_list (n + 1) f
cross_step n f xs ys zs u v e ey ez eu ev =
    ez ∙ ap₂ (λ (a : List Fp) (b : Fp). a ++ b ∷ []) (ey ∙ ap (λ (b : Fp). xs ++ b ∷ []) eu) ev ∙ cross_more n f xs e

-- a loop over points
pub points_more : {A : Type 0} (f : ℕ → List A) (n : ℕ) → flat_map f (points_up_to (n + 1)) ≡ flat_map f (points_up_to n) ++ f (n + 1)
points_more f n =
    let z : 1 + n ≡ n + 1 = omega arith in
    ap (λ k. flat_map f (range_with_len 1 k)) (add-one n)
    ∙ ap (flat_map f) (range_more 1 n)
    ∙ flat_map-append f (range_with_len 1 n) ((1 + n) ∷ [])
    ∙ ap (λ ys. flat_map f (range_with_len 1 n) ++ ys) (append-nil (f (1 + n)) ∙ ap f z)

pub points_step : {A : Type 0} (f : ℕ → List A) (k : ℕ) (old xs ys : List A) → 1 ≤ k → xs ≡ old ++ flat_map f (points_up_to (k - 1)) → ys ≡ xs ++ f k → ys ≡ old ++ flat_map f (points_up_to (k + 1 - 1))
points_step f k old xs ys le e ey =
    let a : (k - 1) + 1 ≡ k = omega arith in
    let b : (k - 1) + 1 ≡ k + 1 - 1 = omega arith in
    ey ∙ ap (λ zs. zs ++ f k) e ∙ append_assoc old (flat_map f (points_up_to (k - 1))) (f k) ∙ ap (λ j. old ++ (flat_map f (points_up_to (k - 1)) ++ f j)) (sym a) ∙ ap (λ zs. old ++ zs) (sym (points_more f (k - 1))) ∙ ap (λ j. old ++ flat_map f (points_up_to j)) b
