-- Plain words on lists and choices.
use Rattle.std.specs.Prelude.{◌≡◌, ℕ, zero, suc, Bool, true, false, List, [], ◌∷◌, Option, Some}
use Rattle.std.specs.List.{range_with_len}

-- the numbers from 0, as many as the count
abbrev pub places : ℕ → List ℕ
places count = range_with_len 0 count

-- the value where the test holds, else the other
abbrev pub first_of : {A : Type 0} → Bool → A → Option A → Option A
first_of true value other = Some value
first_of false value other = other

-- the item stands at a place, from 0
abbrev pub Nth : {A : Type 0} → ℕ → A → List A → Type 0
Nth place item [] = ⊥
Nth zero item (first ∷ rest) = first ≡ item
Nth (suc place) item (first ∷ rest) = Nth place item rest
