-- What is held after changes.
use Rattle.std.proofs.Common.{◌≡◌, inl, inr, ◌⊎◌, ℕ, Bool, true, false, cond, List, [], ◌∷◌, ◌++◌, ◌+◌, ◌<◌, ◌≤◌, ◌≢◌, suc, zero, eqb, arith, map, take, refl, sym, ap, ◌∙◌, Option, Some, None}
use Rattle.std.specs.List.{range_with_len, filter}
use Rattle.std.proofs.lemmas.Bool.{eqb-true, eq-eqb}
use Rattle.std.specs.Ordering.{nat_cmp, eq_by_cmp}
use Rattle.std.specs.Cmp.Lexicographic.{slice_cmp, nat_list_cmp_total}
use Rattle.std.specs.FinMap.{get, insert, remove, get-insert, get-remove}
use Rattle.std.proofs.lemmas.Map.Text.{is_eq-slice_cmp}
use Rattle.std.proofs.lemmas.Slice.Eq.{bytes_eq-Decides}
use Rattle.shelf.specs.Held.{Held, Change, Put, Remove, after, after_change}
use Rattle.commands.specs.Agreement.{Among}

either : (b : Bool) → (b ≡ true) ⊎ (b ≡ false)
either true = inl refl
either false = inr refl

true_not_false : true ≡ false → ⊥
true_not_false e = cc

pub among_append : {A : Type 0} (x : A) (xs ys : List A) → Among x (xs ++ ys) → Among x xs ⊎ Among x ys
among_append x [] ys h = inr h
among_append x (y ∷ xs) ys (inl e) = inl (inl e)
among_append x (y ∷ xs) ys (inr h) = elim (among_append x xs ys h) [ inl a ↦ inl (inr a) | inr b ↦ inr b ]

pub among_behind : {A : Type 0} (x : A) (xs ys : List A) → Among x ys → Among x (xs ++ ys)
among_behind x [] ys h = h
among_behind x (y ∷ xs) ys h = inr (among_behind x xs ys h)

pub among_map : {A B : Type 0} (f : A → B) (y : B) (xs : List A) → Among y (map f xs) → (x : A) × Among x xs × (f x ≡ y)
among_map f y [] h = absurd h
among_map f y (x ∷ xs) (inl e) = (x, inl refl, e)
among_map f y (x ∷ xs) (inr h) = let r = among_map f y xs h in (r.0, inr r.1, r.2)

ne_of : (a j : ℕ) → eqb a j ≡ false → a ≢ j
ne_of a j e same = true_not_false (sym (eq-eqb a j same) ∙ e)

first_or_later : (a j : ℕ) → a ≤ j → (a ≡ j) ⊎ (a + 1 ≤ j)
first_or_later a j le = elim (either (eqb a j)) [ inl e ↦ inl (eqb-true a j e) | inr e ↦ inr (omega (arith, le, ne_of a j e)) ]

pub among_from_map : {A B : Type 0} (f : A → B) (x : A) (xs : List A) → Among x xs → Among (f x) (map f xs)
among_from_map f x [] h = absurd h
among_from_map f x (y ∷ ys) (inl e) = inl (ap f e)
among_from_map f x (y ∷ ys) (inr h) = inr (among_from_map f x ys h)

pub among_take : {A : Type 0} (x : A) (n : ℕ) (xs : List A) → Among x (take n xs) → Among x xs
among_take x zero xs h = absurd h
among_take x (suc n) [] h = absurd h
among_take x (suc n) (y ∷ ys) (inl e) = inl e
among_take x (suc n) (y ∷ ys) (inr h) = inr (among_take x n ys h)

pub after_append : (xs ys : List Change) (held : Held) → after (xs ++ ys) held ≡ after ys (after xs held)
after_append [] ys held = refl
after_append (x ∷ xs) ys held = after_append xs ys (after_change x held)

same_name : (q k : List ℕ) → eq_by_cmp (slice_cmp nat_cmp) q k ≡ true → q ≡ k
same_name q k e = (bytes_eq-Decides q k).0 (sym (is_eq-slice_cmp q k) ∙ e)

own_name : (q : List ℕ) → eq_by_cmp (slice_cmp nat_cmp) q q ≡ true
own_name q = is_eq-slice_cmp q q ∙ (bytes_eq-Decides q q).1 refl

cond_none : {A : Type 0} (b : Bool) (o : Option A) → o ≡ None → cond b None o ≡ None
cond_none true o e = refl
cond_none false o e = e

cond_first : {A : Type 0} (b : Bool) (x o : Option A) → b ≡ true → cond b x o ≡ x
cond_first true x o e = refl
cond_first false x o e = cc

put_cases : (b : Bool) (name q bytes : List ℕ) (rest : Option (List ℕ)) (x : List ℕ) → (b ≡ true → q ≡ name) → cond b (Some bytes) rest ≡ Some x → (Put name bytes ≡ Put q x) ⊎ (rest ≡ Some x)
put_cases true name q bytes rest x same e = inl (cc (sym (same refl)))
put_cases false name q bytes rest x same e = inr e

gone_cases : (b : Bool) (rest : Option (List ℕ)) (x : List ℕ) → cond b None rest ≡ Some x → rest ≡ Some x
gone_cases true rest x e = cc
gone_cases false rest x e = e

-- what a name holds after changes was put by one of them, or was there before
pub put_or_before : (changes : List Change) (held : Held) (q x : List ℕ) → get (after changes held) q ≡ Some x → Among (Put q x) changes ⊎ (get held q ≡ Some x)
put_or_before [] held q x e = inr e
put_or_before (Put name bytes ∷ rest) held q x e =
    elim (put_or_before rest (insert held name bytes) q x e) [
      | inl later ↦ inl (inr later)
      | inr here ↦ elim (put_cases (eq_by_cmp (slice_cmp nat_cmp) q name) name q bytes (get held q) x (same_name q name) (sym (get-insert nat_list_cmp_total held name bytes q) ∙ here)) [
        | inl is ↦ inl (inl is)
        | inr before ↦ inr before
      ]
    ]
put_or_before (Remove name ∷ rest) held q x e =
    elim (put_or_before rest (remove held name) q x e) [
      | inl later ↦ inl (inr later)
      | inr here ↦ inr (gone_cases (eq_by_cmp (slice_cmp nat_cmp) q name) (get held q) x (sym (get-remove nat_list_cmp_total held name q) ∙ here))
    ]

-- a name that isn't held stays so under removals
none_stays : (f : ℕ → List ℕ) (js : List ℕ) (held : Held) (q : List ℕ) → get held q ≡ None → get (after (map (λ i. Remove (f i)) js) held) q ≡ None
none_stays f [] held q e = e
none_stays f (j ∷ js) held q e = none_stays f js (remove held (f j)) q (get-remove nat_list_cmp_total held (f j) q ∙ cond_none _ _ e)

-- and a removed name isn't held
pub removed : (f : ℕ → List ℕ) (js : List ℕ) (held : Held) (q : List ℕ) (j : ℕ) → Among j js → f j ≡ q → get (after (map (λ i. Remove (f i)) js) held) q ≡ None
removed f [] held q j h e = absurd h
removed f (k ∷ js) held q j (inl same) e =
    none_stays f js (remove held (f k)) q
    (get-remove nat_list_cmp_total held (f k) q ∙ cond_first _ None (get held q) (ap (λ n. eq_by_cmp (slice_cmp nat_cmp) q n) (ap f same ∙ e) ∙ own_name q))
removed f (k ∷ js) held q j (inr h) e = removed f js (remove held (f k)) q j h e

pub among_range : (a n j : ℕ) → a ≤ j → j < a + n → Among j (range_with_len a n)
among_range a zero j le lt = absurd (omega (arith, le, lt))
among_range a (suc n) j le lt = elim (first_or_later a j le) [ inl e ↦ inl e | inr more ↦ inr (among_range (a + 1) n j more (omega (arith, lt))) ]

pub range_has : (a n j : ℕ) → Among j (range_with_len a n) → (a ≤ j) × (j < a + n)
range_has a zero j h = absurd h
range_has a (suc n) j (inl e) = (omega (arith, e), omega (arith, e))
range_has a (suc n) j (inr h) = let r = range_has (a + 1) n j h in (omega (arith, r.0), omega (arith, r.1))

filter_cases : {A : Type 0} (b : Bool) (test : A → Bool) (x y : A) (rest : List A) → test y ≡ b → Among x (cond b (y ∷ rest) rest) → ((y ≡ x) × (test x ≡ true)) ⊎ Among x rest
filter_cases true test x y rest e (inl same) = inl (same, sym (ap test same) ∙ e)
filter_cases true test x y rest e (inr h) = inr h
filter_cases false test x y rest e h = inr h

pub among_filter : {A : Type 0} (test : A → Bool) (x : A) (xs : List A) → Among x (filter test xs) → Among x xs × (test x ≡ true)
among_filter test x [] h = absurd h
among_filter test x (y ∷ ys) h =
    elim (filter_cases (test y) test x y (filter test ys) refl h) [
      | inl here ↦ (inl here.0, here.1)
      | inr later ↦ let r = among_filter test x ys later in (inr r.0, r.1)
    ]

filter_into : {A : Type 0} (b : Bool) (x y : A) (rest : List A) → (y ≡ x → b ≡ true) → (y ≡ x) ⊎ Among x rest → Among x (cond b (y ∷ rest) rest)
filter_into true x y rest test h = h
filter_into false x y rest test (inl same) = absurd (true_not_false (sym (test same)))
filter_into false x y rest test (inr h) = h

pub among_into_filter : {A : Type 0} (test : A → Bool) (x : A) (xs : List A) → test x ≡ true → Among x xs → Among x (filter test xs)
among_into_filter test x [] e h = h
among_into_filter test x (y ∷ ys) e (inl same) = filter_into (test y) x y (filter test ys) (λ eq. ap test eq ∙ e) (inl same)
among_into_filter test x (y ∷ ys) e (inr h) = filter_into (test y) x y (filter test ys) (λ eq. ap test eq ∙ e) (inr (among_into_filter test x ys e h))

-- ---- what stays
put_keeps : (b : Bool) (bytes : List ℕ) (o : Option (List ℕ)) (x : List ℕ) → (b ≡ true → bytes ≡ x) → o ≡ Some x → cond b (Some bytes) o ≡ Some x
put_keeps true bytes o x same e = ap (λ (y : List ℕ). Some y) (same refl)
put_keeps false bytes o x same e = e

-- under the put of a name that is another one, or puts the same
put_stays : (name bytes : List ℕ) (held : Held) (q x : List ℕ) → (q ≡ name → bytes ≡ x) → get held q ≡ Some x → get (insert held name bytes) q ≡ Some x
put_stays name bytes held q x same e =
    get-insert nat_list_cmp_total held name bytes q ∙ put_keeps (eq_by_cmp (slice_cmp nat_cmp) q name) bytes (get held q) x (λ is. same (same_name q name is)) e

-- what is put is there
pub put_is_there : (name bytes : List ℕ) (held : Held) → get (insert held name bytes) name ≡ Some bytes
put_is_there name bytes held = get-insert nat_list_cmp_total held name bytes name ∙ cond_first _ (Some bytes) (get held name) (own_name name)

-- under puts
puts_stay : (f b : ℕ → List ℕ) (js : List ℕ) (held : Held) (q x : List ℕ) → ((j : ℕ) → Among j js → q ≡ f j → b j ≡ x) → get held q ≡ Some x → get (after (map (λ i. Put (f i) (b i)) js) held) q ≡ Some x
puts_stay f b [] held q x same e = e
puts_stay f b (j ∷ js) held q x same e =
    puts_stay f b js (insert held (f j) (b j)) q x (λ k among is. same k (inr among) is) (put_stays (f j) (b j) held q x (λ is. same j (inl refl) is) e)

pub puts_are_there : (f b : ℕ → List ℕ) (js : List ℕ) (held : Held) (j : ℕ) → Among j js → ((k : ℕ) → Among k js → f j ≡ f k → b k ≡ b j) → get (after (map (λ i. Put (f i) (b i)) js) held) (f j) ≡ Some (b j)
puts_are_there f b [] held j h same = absurd h
puts_are_there f b (k ∷ js) held j (inl is) same =
    puts_stay f b js (insert held (f k) (b k)) (f j) (b j) (λ i among e. same i (inr among) e)
    (ap (get (insert held (f k) (b k))) (ap f (sym is)) ∙ put_is_there (f k) (b k) held ∙ ap (λ (i : ℕ). Some (b i)) is)
puts_are_there f b (k ∷ js) held j (inr h) same = puts_are_there f b js (insert held (f k) (b k)) j h (λ i among e. same i (inr among) e)

-- ---- names that no change touches
abbrev pub change_name : Change → List ℕ
change_name (Put name bytes) = name
change_name (Remove name) = name

other_cases : (b : Bool) (x o : Option (List ℕ)) → (b ≡ true → ⊥) → cond b x o ≡ o
other_cases true x o apart = absurd (apart refl)
other_cases false x o apart = refl

pub untouched : (changes : List Change) (held : Held) (q : List ℕ) → ((c : Change) → Among c changes → q ≡ change_name c → ⊥) → get (after changes held) q ≡ get held q
untouched [] held q apart = refl
untouched (Put name bytes ∷ rest) held q apart =
    untouched rest (insert held name bytes) q (λ c among. apart c (inr among))
    ∙ get-insert nat_list_cmp_total held name bytes q ∙ other_cases (eq_by_cmp (slice_cmp nat_cmp) q name) (Some bytes) (get held q) (λ is. apart (Put name bytes) (inl refl) (same_name q name is))
untouched (Remove name ∷ rest) held q apart =
    untouched rest (remove held name) q (λ c among. apart c (inr among))
    ∙ get-remove nat_list_cmp_total held name q ∙ other_cases (eq_by_cmp (slice_cmp nat_cmp) q name) None (get held q) (λ is. apart (Remove name) (inl refl) (same_name q name is))
