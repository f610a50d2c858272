-- Lists made place by place.
use Rattle.std.proofs.Common.{◌≡◌, ℕ, zero, suc, ◌+◌, List, [], ◌∷◌, ◌++◌, sym, ap, ◌∙◌, arith, add-one}
use Rattle.std.specs.List.{flat_map, range_with_len}
use Rattle.std.proofs.lemmas.List.{append-nil}
use Rattle.std.proofs.lemmas.List.Concat.{flat_map-append}
use Rattle.talk.specs.Basics.{places}

pub range_more : (a n : ℕ) → range_with_len a (suc n) ≡ range_with_len a n ++ (a + n) ∷ []
range_more a zero = ap (λ k. k ∷ []) (omega arith)
range_more a (suc n) = ap (λ ks. a ∷ ks) (range_more (a + 1) n ∙ ap (λ k. range_with_len (a + 1) n ++ k ∷ []) (omega arith))

pub flat_more : {A : Type 0} (f : ℕ → List A) (n : ℕ) → flat_map f (places (n + 1)) ≡ flat_map f (places n) ++ f n
flat_more f n =
    let z : 0 + n ≡ n = omega arith in
    ap (λ k. flat_map f (range_with_len 0 k)) (add-one n)
    ∙ ap (flat_map f) (range_more 0 n)
    ∙ flat_map-append f (range_with_len 0 n) ((0 + n) ∷ [])
    ∙ ap (λ ys. flat_map f (range_with_len 0 n) ++ ys) (append-nil (f (0 + n)) ∙ ap f z)

-- a loop over places
pub places_step : {A : Type 0} (f : ℕ → List A) (n : ℕ) (xs ys : List A) → xs ≡ flat_map f (places n) → ys ≡ xs ++ f n → ys ≡ flat_map f (places (n + 1))
places_step f n xs ys e ey = ey ∙ ap (λ zs. zs ++ f n) e ∙ sym (flat_more f n)
