-- Lists made place by place.
use Rattle.std.proofs.Common.{◌≡◌, ℕ, zero, suc, ◌+◌, ◌-◌, ◌<◌, ◌≤◌, List, [], ◌∷◌, ◌++◌, length, map, take, drop, get_or, All, refl, sym, ap, ap₂, ◌∙◌, subst, arith, append_assoc}
use Rattle.std.specs.List.{range_with_len}
use Rattle.std.proofs.lemmas.List.{drop_more, take_more}
use Rattle.std.proofs.lemmas.List.FromFn.{map-range_with_len_more, get_or-map-range_with_len, length-map-range_with_len}
use Rattle.plays.specs.Said.{places, points_up_to}

-- one number more, where a loop goes from 1
pub points_map_step : {A : Type 0} (f : ℕ → A) (k : ℕ) (xs ys : List A) (x : A) → 1 ≤ k → xs ≡ map f (points_up_to (k - 1)) → ys ≡ xs ++ x ∷ [] → x ≡ f k → ys ≡ map f (points_up_to (k + 1 - 1))
points_map_step f k xs ys x le e ey ex =
    let z : k + 1 - 1 ≡ (k - 1) + 1 = omega arith in
    let o : 1 + (k - 1) ≡ k = omega (arith, le) in
    ey ∙ ap₂ (λ (l : List _) (a : _). l ++ a ∷ []) e ex ∙ sym (map-range_with_len_more f 1 (k - 1) k o) ∙ ap (λ n. map f (points_up_to n)) (sym z)

pub map_both : {A B : Type 0} (f : A → B) (xs ys : List A) → map f (xs ++ ys) ≡ map f xs ++ map f ys
map_both f [] ys = refl
map_both {A} {B} f (x ∷ xs) ys = ap (λ (zs : List B). f x ∷ zs) (map_both f xs ys)

pub map_twice : {A B C : Type 0} (g : B → C) (f : A → B) (xs : List A) → map g (map f xs) ≡ map (λ x. g (f x)) xs
map_twice g f [] = refl
map_twice {A} {B} {C} g f (x ∷ xs) = ap (λ (zs : List C). g (f x) ∷ zs) (map_twice g f xs)

-- ---- a list read at a place
pub drop_item : {A : Type 0} (xs : List A) (i : ℕ) (x : A) → i < length xs → x ≡ get_or xs i x → drop i xs ≡ x ∷ drop (i + 1) xs
drop_item {A} xs i x lt is = drop_more xs i x lt ∙ ap (λ (y : A). y ∷ drop (i + 1) xs) (sym is)

pub take_item : {A : Type 0} (xs : List A) (i : ℕ) (x : A) → i < length xs → x ≡ get_or xs i x → take (i + 1) xs ≡ take i xs ++ x ∷ []
take_item {A} xs i x lt is = take_more xs i x lt ∙ ap (λ (y : A). take i xs ++ y ∷ []) (sym is)

pub all_more : {A : Type 0} (P : A → Type 0) (xs : List A) (x : A) → All P xs → P x → All P (xs ++ x ∷ [])
all_more P [] x a p zero d lt = p
all_more P [] x a p (suc k) d lt = absurd (omega (arith, lt))
all_more P (y ∷ ys) x a p zero d lt = a 0 d (omega arith)
all_more P (y ∷ ys) x a p (suc k) d lt = all_more P ys x (λ i e less. a (suc i) e (omega (arith, less))) p k d (omega (arith, lt))

-- what is put at the end item by item
pub map_take_step : {A B : Type 0} (f : A → B) (xs : List A) (i : ℕ) (x : A) (old ys zs : List B) (y : B) → i < length xs → x ≡ get_or xs i x → ys ≡ old ++ map f (take i xs) → zs ≡ ys ++ y ∷ [] → y ≡ f x →
    zs ≡ old ++ map f (take (i + 1) xs)
map_take_step {A} {B} f xs i x old ys zs y lt is e ez ey =
    ez ∙ ap₂ (λ (l : List B) (b : B). l ++ b ∷ []) e ey
    ∙ append_assoc old (map f (take i xs)) (f x ∷ [])
    ∙ ap (λ (l : List B). old ++ l) (sym (map_both f (take i xs) (x ∷ [])) ∙ ap (map f) (sym (take_item xs i x lt is)))

-- one place more
pub places_append : {A : Type 0} (f : ℕ → A) (k : ℕ) (xs ys : List A) (x : A) → xs ≡ map f (places k) → ys ≡ xs ++ x ∷ [] → x ≡ f k → ys ≡ map f (places (k + 1))
places_append f k xs ys x e ey ex =
    let o : 0 + k ≡ k = omega arith in
    ey ∙ ap₂ (λ (l : List _) (a : _). l ++ a ∷ []) e ex ∙ sym (map-range_with_len_more f 0 k k o)

-- a list by places is one by numbers from 1
pub places_points : {A : Type 0} (f g : ℕ → A) (n a : ℕ) → ((k : ℕ) → a ≤ k → k < a + n → f k ≡ g (k + 1)) → map f (range_with_len a n) ≡ map g (range_with_len (a + 1) n)
places_points f g zero a h = refl
places_points f g (suc n) a h = ap₂ (λ x (xs : List _). x ∷ xs) (h a (omega arith) (omega arith)) (places_points f g n (a + 1) (λ k from to. h k (omega (arith, from)) (omega (arith, to))))

-- within a list the default doesn't matter
pub default_any : {A : Type 0} (xs : List A) (k : ℕ) (d e : A) → k < length xs → get_or xs k d ≡ get_or xs k e
default_any [] k d e lt = absurd (omega (arith, lt))
default_any (x ∷ xs) zero d e lt = refl
default_any (x ∷ xs) (suc k) d e lt = default_any xs k d e (omega (arith, lt))

pub all_map : {A : Type 0} (P : A → Type 0) (f : ℕ → A) (n : ℕ) → ((k : ℕ) → k < n → P (f k)) → All P (map f (places n))
all_map P f n h k d lt =
    let less : k < n = omega (arith, lt, length-map-range_with_len f 0 n) in
    let there : 0 + k ≡ k = omega arith in
    subst P (sym (get_or-map-range_with_len f 0 n k k d less there)) (h k less)
