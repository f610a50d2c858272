-- Lists made number by number: what holds of their items, what stands in them, and that they ascend.
use Rattle.std.proofs.Common.{inl, inr, ◌≡◌, ℕ, zero, suc, ◌+◌, ◌<◌, ◌≤◌, Bool, true, false, cond, List, [], ◌∷◌, ◌++◌, map, All, refl, ap, ◌∙◌, arith}
use Rattle.std.specs.List.{list_all, flat_map, range_with_len}
use Rattle.std.proofs.lemmas.Bool.{cases_eq, and_from}
use Rattle.talk.specs.Basics.{first_of}
use Rattle.talk.specs.Read.{comes_first, ascends}
use Rattle.plays.specs.Read.{seek}

module _ {A : Type 0} where
  -- ---- what holds of each item
  abbrev pub Every : (A → Type 0) → List A → Type 0
  Every P [] = Unit {0}
  Every P (x ∷ xs) = P x × Every P xs

  pub every_append : (P : A → Type 0) (xs ys : List A) → Every P xs → Every P ys → Every P (xs ++ ys)
  every_append P [] ys a b = b
  every_append P (x ∷ xs) ys a b = (a.0, every_append P xs ys a.1 b)

  pub every_as : (P Q : A → Type 0) → ((x : A) → P x → Q x) → (xs : List A) → Every P xs → Every Q xs
  every_as P Q h [] a = tt
  every_as P Q h (x ∷ xs) a = (h x a.0, every_as P Q h xs a.1)

  pub every_flat : (P : A → Type 0) (f : ℕ → List A) (n a : ℕ) → ((k : ℕ) → a ≤ k → k < a + n → Every P (f k)) → Every P (flat_map f (range_with_len a n))
  every_flat P f zero a h = tt
  every_flat P f (suc n) a h =
      every_append P (f a) (flat_map f (range_with_len (a + 1) n)) (h a (omega arith) (omega arith))
      (every_flat P f n (a + 1) (λ k from to. h k (omega (arith, from)) (omega (arith, to))))

  pub every_map : (P : A → Type 0) (f : ℕ → A) (n a : ℕ) → ((k : ℕ) → a ≤ k → k < a + n → P (f k)) → Every P (map f (range_with_len a n))
  every_map P f zero a h = tt
  every_map P f (suc n) a h = (h a (omega arith) (omega arith), every_map P f n (a + 1) (λ k from to. h k (omega (arith, from)) (omega (arith, to))))

  pub every_if : (P : A → Type 0) (b : Bool) (xs : List A) → (b ≡ true → Every P xs) → Every P (cond b xs [])
  every_if P true xs h = h refl
  every_if P false xs h = tt

  pub every_unless : (P : A → Type 0) (b : Bool) (xs : List A) → (b ≡ false → Every P xs) → Every P (cond b [] xs)
  every_unless P true xs h = tt
  every_unless P false xs h = h refl

  pub every_list_all : (t : A → Bool) (xs : List A) → Every (λ x. t x ≡ true) xs → list_all t xs ≡ true
  every_list_all t [] a = refl
  every_list_all t (x ∷ xs) a = and_from (t x) (list_all t xs) a.0 (every_list_all t xs a.1)

  pub every_all : (P : A → Type 0) (xs : List A) → Every P xs → All P xs
  every_all P [] a k d lt = absurd (omega (arith, lt))
  every_all P (x ∷ xs) a zero d lt = a.0
  every_all P (x ∷ xs) a (suc k) d lt = every_all P xs a.1 k d (omega (arith, lt))

  -- ---- looking an item up
  -- no item passes the test
  abbrev pub Fails : (A → Bool) → List A → Type 0
  Fails t xs = Every (λ x. t x ≡ false) xs

  module _ {B : Type 0} (t : A → Bool) (v : A → B) where
    fails_seek : (xs : List A) → Fails t xs → seek t v xs ≡ seek t v []
    fails_seek [] a = refl
    fails_seek (x ∷ xs) a = ap (λ b. first_of b (v x) (seek t v xs)) a.0 ∙ fails_seek xs a.1

    pub seek_past : (xs ys : List A) → Fails t xs → seek t v (xs ++ ys) ≡ seek t v ys
    seek_past [] ys a = refl
    seek_past (x ∷ xs) ys a = ap (λ b. first_of b (v x) (seek t v (xs ++ ys))) a.0 ∙ seek_past xs ys a.1

    pub seek_before : (xs ys : List A) → Fails t ys → seek t v (xs ++ ys) ≡ seek t v xs
    seek_before [] ys a = fails_seek ys a
    seek_before (x ∷ xs) ys a = ap (first_of (t x) (v x)) (seek_before xs ys a)

    -- only the items of one number may pass
    pub seek_at : (f : ℕ → List A) (k n a : ℕ) → a ≤ k → k < a + n → ((j : ℕ) → (j ≡ k → ⊥) → Fails t (f j)) → seek t v (flat_map f (range_with_len a n)) ≡ seek t v (f k)
    seek_at f k zero a from to h = absurd (omega (arith, from, to))
    seek_at f k (suc n) a from to h =
        elim (cases_eq a k) [
          | inl e ↦
              seek_before (f a) (flat_map f (range_with_len (a + 1) n))
              (every_flat (λ x. t x ≡ false) f n (a + 1) (λ j lo hi. h j (λ same. omega (arith, same, e, lo))))
              ∙ ap (λ j. seek t v (f j)) e
          | inr ne ↦
              seek_past (f a) (flat_map f (range_with_len (a + 1) n)) (h a ne)
              ∙ seek_at f k n (a + 1) (omega (arith, from, ne)) (omega (arith, to)) h
        ]

  -- ---- lists that ascend
  module _ (before : A → A → Bool) where
    -- each item comes before all later ones
    abbrev pub Sorted : List A → Type 0
    Sorted [] = Unit {0}
    Sorted (x ∷ xs) = Every (λ y. before x y ≡ true) xs × Sorted xs

    first_sorted : (x : A) (xs : List A) → Every (λ y. before x y ≡ true) xs → comes_first before x xs ≡ true
    first_sorted x [] a = refl
    first_sorted x (y ∷ ys) a = a.0

    pub sorted_ascends : (xs : List A) → Sorted xs → ascends before xs ≡ true
    sorted_ascends [] s = refl
    sorted_ascends (x ∷ xs) s = and_from (comes_first before x xs) (ascends before xs) (first_sorted x xs s.0) (sorted_ascends xs s.1)

    pub sorted_append : (xs ys : List A) → Sorted xs → Sorted ys → Every (λ x. Every (λ y. before x y ≡ true) ys) xs → Sorted (xs ++ ys)
    sorted_append [] ys s r a = r
    sorted_append (x ∷ xs) ys s r a = (every_append (λ y. before x y ≡ true) xs ys s.0 a.0, sorted_append xs ys s.1 r a.1)

    -- the items of each number ascend, and come before those of the later ones
    pub sorted_flat : (P : ℕ → A → Type 0) → ((j k : ℕ) (x y : A) → j < k → P j x → P k y → before x y ≡ true) → (f : ℕ → List A) → ((k : ℕ) → Every (P k) (f k)) → ((k : ℕ) → Sorted (f k)) →
        (n a : ℕ) → Sorted (flat_map f (range_with_len a n))
    sorted_flat P rule f each sorted zero a = tt
    sorted_flat P rule f each sorted (suc n) a =
        sorted_append (f a) (flat_map f (range_with_len (a + 1) n)) (sorted a) (sorted_flat P rule f each sorted n (a + 1))
        (every_as (P a) (λ x. Every (λ y. before x y ≡ true) (flat_map f (range_with_len (a + 1) n)))
        (λ x px. every_flat (λ y. before x y ≡ true) f n (a + 1)
        (λ k lo hi. every_as (P k) (λ y. before x y ≡ true) (λ y py. rule a k x y (omega (arith, lo)) px py) (f k) (each k)))
        (f a) (each a))
