-- The rule of ascending lists, one item more at a time: the running form has the two keys of the item before.
use Rattle.std.proofs.Common.{◌≡◌, ℕ, zero, suc, ◌+◌, ◌<◌, Bool, true, false, ◌&&◌, eqb, ltb, leb, List, [], ◌∷◌, length, refl, sym, ap, ◌∙◌, arith}
use Rattle.std.specs.List.{list_all}
use Rattle.std.proofs.Common.{get_or, drop}
use Rattle.std.proofs.lemmas.Bool.{leb-true, lt-ltb, or_left}
use Rattle.std.proofs.lemmas.List.{drop_more}
use Rattle.talk.specs.declared.messages.Complaint.{Complaint}
use Rattle.talk.specs.declared.messages.Reveal.{Reveal}
use Rattle.talk.specs.Shape.{Shape, instances}
use Rattle.talk.specs.Read.{comes_first, ascends, comes_before, complaint_in, complaints_ok, reveal_in, reveals_ok}

-- the items come after the keys a and b, in order of their keys, and each passes the test
abbrev pub ascends_from : {A : Type 0} → (A → ℕ) → (A → ℕ) → (A → Bool) → ℕ → ℕ → List A → Bool
ascends_from f g ok a b [] = true
ascends_from f g ok a b (x ∷ xs) = comes_before a b (f x) (g x) && (ok x && ascends_from f g ok (f x) (g x) xs)

-- the same for complaints and for reveals
abbrev pub complaints_from : Shape → ℕ → ℕ → List Complaint → Bool
complaints_from s a b cs = ascends_from (λ (c : Complaint). c.instance) (λ (c : Complaint). c.against) (complaint_in s) a b cs

abbrev pub reveals_from : Shape → ℕ → ℕ → List Reveal → Bool
reveals_from s a b rs = ascends_from (λ (r : Reveal). r.lane) (λ (r : Reveal). r.receiver) (reveal_in s) a b rs

shuffled : (a b c d : Bool) → ((a && b) && (c && d)) ≡ (c && (a && (b && d)))
shuffled true true c d = refl
shuffled true false true d = refl
shuffled true false false d = refl
shuffled false b true d = refl
shuffled false b false d = refl

implied : (a b : Bool) → (b ≡ true → a ≡ true) → b ≡ (a && b)
implied true b h = refl
implied false true h = absurd (cc (h refl))
implied false false h = refl

first_part : (a b : Bool) → (a && b) ≡ true → a ≡ true
first_part true b e = refl
first_part false b e = absurd (cc (e))

-- a first item whose second key is at least 1 comes after (0, 0)
first_after : (a b : ℕ) → leb 1 b ≡ true → comes_before 0 0 a b ≡ true
first_after zero b e = lt-ltb 0 b (leb-true 1 b e)
first_after (suc a) b e = or_left (ltb 0 (suc a)) (eqb 0 (suc a) && ltb 0 b) (lt-ltb 0 (suc a) (omega arith))

module _ {A : Type 0} (f g : A → ℕ) (ok : A → Bool) where
  rest_is : (x : A) (xs : List A) →
      (comes_first (λ y z. comes_before (f y) (g y) (f z) (g z)) x xs && (ascends (λ y z. comes_before (f y) (g y) (f z) (g z)) xs && list_all ok xs))
      ≡ ascends_from f g ok (f x) (g x) xs
  rest_is x [] = refl
  rest_is x (y ∷ ys) =
      ap (λ z. comes_before (f x) (g x) (f y) (g y) && z)
      (shuffled (comes_first (λ y z. comes_before (f y) (g y) (f z) (g z)) y ys) (ascends (λ y z. comes_before (f y) (g y) (f z) (g z)) ys) (ok y) (list_all ok ys)
      ∙ ap (λ z. ok y && z) (rest_is y ys))

  ascends_is : ((x : A) → ok x ≡ true → leb 1 (g x) ≡ true) → (xs : List A) →
      (ascends (λ y z. comes_before (f y) (g y) (f z) (g z)) xs && list_all ok xs) ≡ ascends_from f g ok 0 0 xs
  ascends_is h [] = refl
  ascends_is h (x ∷ xs) =
      shuffled (comes_first (λ y z. comes_before (f y) (g y) (f z) (g z)) x xs) (ascends (λ y z. comes_before (f y) (g y) (f z) (g z)) xs) (ok x) (list_all ok xs)
      ∙ ap (λ z. ok x && z) (rest_is x xs)
      ∙ implied (comes_before 0 0 (f x) (g x)) (ok x && ascends_from f g ok (f x) (g x) xs)
      (λ e. first_after (f x) (g x) (h x (first_part (ok x) (ascends_from f g ok (f x) (g x) xs) e)))

second_part : (a b c : Bool) → (a && (b && c)) ≡ true → b ≡ true
second_part true true c e = refl
second_part true false c e = absurd (cc (e))
second_part false b c e = absurd (cc (e))

inner_part : (a b c d : Bool) → (a && ((b && c) && d)) ≡ true → b ≡ true
inner_part true true c d e = refl
inner_part true false c d e = absurd (cc (e))
inner_part false b c d e = absurd (cc (e))

pub complaints_are : (s : Shape) (cs : List Complaint) → complaints_ok s cs ≡ complaints_from s 0 0 cs
complaints_are s cs =
    ascends_is (λ (c : Complaint). c.instance) (λ (c : Complaint). c.against) (complaint_in s)
    (λ c e. second_part (ltb c.instance (instances s)) (leb 1 c.against) (leb c.against s.receivers) e) cs

pub reveals_are : (s : Shape) (rs : List Reveal) → reveals_ok s rs ≡ reveals_from s 0 0 rs
reveals_are s rs =
    ascends_is (λ (r : Reveal). r.lane) (λ (r : Reveal). r.receiver) (reveal_in s)
    (λ r e. inner_part (ltb r.lane 5) (leb 1 r.receiver) (leb r.receiver s.receivers) (eqb (length r.row) (s.degree + 1) && eqb (length r.column) (s.degree + 1)) e) rs

-- one step of a loop over the list
drop_item : {A : Type 0} (xs : List A) (i : ℕ) (x : A) → i < length xs → x ≡ get_or xs i x → drop i xs ≡ x ∷ drop (i + 1) xs
drop_item xs i x lt e = drop_more xs i x lt ∙ ap (λ y. y ∷ drop (i + 1) xs) (sym e)

kept : (p q z : Bool) → (p && q) ≡ true → (p && (q && z)) ≡ z
kept true true z e = refl
kept true false z e = absurd (cc (e))
kept false q z e = absurd (cc (e))

lost : (p q z : Bool) → (p && q) ≡ false → (p && (q && z)) ≡ false
lost true true z e = absurd (cc (e))
lost true false z e = refl
lost false q z e = refl

module _ {A : Type 0} (f g : A → ℕ) (ok : A → Bool) (a b i : ℕ) (xs : List A) (x : A) (whole : Bool) where
  pub goes_on : whole ≡ ascends_from f g ok a b (drop i xs) → i < length xs → x ≡ get_or xs i x → (comes_before a b (f x) (g x) && ok x) ≡ true →
      whole ≡ ascends_from f g ok (f x) (g x) (drop (i + 1) xs)
  goes_on e lt is pass =
      e ∙ ap (ascends_from f g ok a b) (drop_item xs i x lt is)
      ∙ kept (comes_before a b (f x) (g x)) (ok x) (ascends_from f g ok (f x) (g x) (drop (i + 1) xs)) pass

  pub ends : whole ≡ ascends_from f g ok a b (drop i xs) → i < length xs → x ≡ get_or xs i x → (comes_before a b (f x) (g x) && ok x) ≡ false → false ≡ whole
  ends e lt is fail =
      sym
      (e ∙ ap (ascends_from f g ok a b) (drop_item xs i x lt is)
      ∙ lost (comes_before a b (f x) (g x)) (ok x) (ascends_from f g ok (f x) (g x) (drop (i + 1) xs)) fail)
