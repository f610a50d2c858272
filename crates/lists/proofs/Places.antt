-- a list read at a place
use Rattle.std.proofs.Common.{◌≡◌, ℕ, ◌+◌, ◌-◌, ◌<◌, List, [], ◌∷◌, ◌++◌, drop, take, get_or, Some, slice_get, ap, sym, ◌∙◌, arith}
use Rattle.std.proofs.lemmas.List.{drop_more, take_more}
use Rattle.std.proofs.lemmas.Option.{slice_get_within, get_or_from_slice_get}

-- what is left from a place on begins with the item there
pub drop_at : {A : Type 0} (items : List A) (place : ℕ) (item : A) → slice_get items place ≡ Some item → drop place items ≡ item ∷ drop (place + 1) items
drop_at items place item h =
    drop_more items place item (slice_get_within items place item h) ∙ ap (λ x. x ∷ drop (place + 1) items) (get_or_from_slice_get items place item item h)

-- the same of the place before, for a walk from the end
pub drop_before : {A : Type 0} (items : List A) (place : ℕ) (item : A) → 0 < place → slice_get items (place - 1) ≡ Some item → drop (place - 1) items ≡ item ∷ drop place items
drop_before items place item some h =
    let next : place - 1 + 1 ≡ place = omega (arith, some) in
    drop_at items (place - 1) item h ∙ ap (λ k. item ∷ drop k items) next

-- the item at a place, said with a value for the places past the end
pub at_or : {A : Type 0} (items : List A) (place : ℕ) (default item : A) → slice_get items place ≡ Some item → item ≡ get_or items place default
at_or items place default item h = sym (get_or_from_slice_get items place item default h)

-- the items up to a place and the item there
pub take_at : {A : Type 0} (items : List A) (place : ℕ) (item : A) → slice_get items place ≡ Some item → take (place + 1) items ≡ take place items ++ item ∷ []
take_at items place item h =
    take_more items place item (slice_get_within items place item h) ∙ ap (λ x. take place items ++ x ∷ []) (get_or_from_slice_get items place item item h)
