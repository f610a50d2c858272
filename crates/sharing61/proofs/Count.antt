-- Tests over receivers, counts, and tests of equal values.
use Rattle.std.proofs.Common.{◌≡◌, ℕ, zero, suc, ◌+◌, ◌≤◌, Bool, true, false, ◌&&◌, ◌||◌, not, cond, List, [], ◌∷◌, length, refl, ap, ap₂, ◌∙◌, arith, inl, inr}
use Rattle.std.proofs.lemmas.Bool.{and_parts, and_from, or_parts, or_from, cases_eq, eqb-true, eq-eqb}
use Rattle.algebra61.specs.Field.{Fp, same_num}
use Rattle.sharing61.specs.Count.{everyone, anyone, how_many}
use Rattle.sharing61.specs.Rules.{same, same_crossing}
use Rattle.sharing61.specs.declared.Crossing.{Crossing}

pub everyone_at : (n : ℕ) (f : ℕ → Bool) → everyone n f ≡ true → (k : ℕ) → 1 ≤ k → k ≤ n → f k ≡ true
everyone_at zero f h k a b = absurd (omega arith)
everyone_at (suc n) f h k a b =
    let both : (everyone n f ≡ true) × (f (suc n) ≡ true) = and_parts (everyone n f) (f (suc n)) h in
    elim (cases_eq k (suc n)) [ inl e ↦ ap f e ∙ both.1 | inr ne ↦ everyone_at n f both.0 k a (omega arith) ]

pub everyone_from : (n : ℕ) (f : ℕ → Bool) → ((k : ℕ) → 1 ≤ k → k ≤ n → f k ≡ true) → everyone n f ≡ true
everyone_from zero f h = refl
everyone_from (suc n) f h =
    and_from (everyone n f) (f (suc n)) (everyone_from n f (λ k a b. h k a (omega arith))) (h (suc n) (omega arith) (omega arith))

pub anyone_at : (n : ℕ) (f : ℕ → Bool) → anyone n f ≡ false → (k : ℕ) → 1 ≤ k → k ≤ n → f k ≡ false
anyone_at zero f h k a b = absurd (omega arith)
anyone_at (suc n) f h k a b =
    let both : (anyone n f ≡ false) × (f (suc n) ≡ false) = or_parts (anyone n f) (f (suc n)) h in
    elim (cases_eq k (suc n)) [ inl e ↦ ap f e ∙ both.1 | inr ne ↦ anyone_at n f both.0 k a (omega arith) ]

pub anyone_not : (n : ℕ) (f : ℕ → Bool) → ((k : ℕ) → 1 ≤ k → k ≤ n → f k ≡ false) → anyone n f ≡ false
anyone_not zero f h = refl
anyone_not (suc n) f h =
    or_from (anyone n f) (f (suc n)) (anyone_not n f (λ k a b. h k a (omega arith))) (h (suc n) (omega arith) (omega arith))

-- tests that agree on 1 to n
pub everyone_same : (n : ℕ) (f g : ℕ → Bool) → ((k : ℕ) → 1 ≤ k → k ≤ n → f k ≡ g k) → everyone n f ≡ everyone n g
everyone_same zero f g h = refl
everyone_same (suc n) f g h = ap₂ (λ a b. a && b) (everyone_same n f g (λ k a b. h k a (omega arith))) (h (suc n) (omega arith) (omega arith))

pub anyone_same : (n : ℕ) (f g : ℕ → Bool) → ((k : ℕ) → 1 ≤ k → k ≤ n → f k ≡ g k) → anyone n f ≡ anyone n g
anyone_same zero f g h = refl
anyone_same (suc n) f g h = ap₂ (λ a b. a || b) (anyone_same n f g (λ k a b. h k a (omega arith))) (h (suc n) (omega arith) (omega arith))

pub how_many_same : (n : ℕ) (f g : ℕ → Bool) → ((k : ℕ) → 1 ≤ k → k ≤ n → f k ≡ g k) → how_many n f ≡ how_many n g
how_many_same zero f g h = refl
how_many_same (suc n) f g h = ap₂ (λ a b. a + cond b 1 0) (how_many_same n f g (λ k a b. h k a (omega arith))) (h (suc n) (omega arith) (omega arith))

-- the numbers from 1 to n of which the test holds, the greatest first
abbrev pub picked_one : Bool → ℕ → List ℕ → List ℕ
picked_one true k ks = k ∷ ks
picked_one false k ks = ks

abbrev pub picked : ℕ → (ℕ → Bool) → List ℕ
picked zero f = []
picked (suc n) f = picked_one (f (suc n)) (suc n) (picked n f)

one_more : (b : Bool) (k : ℕ) (ks : List ℕ) → length (picked_one b k ks) ≡ length ks + cond b 1 0
one_more true k ks = omega arith
one_more false k ks = omega arith

pub length-picked : (n : ℕ) (f : ℕ → Bool) → length (picked n f) ≡ how_many n f
length-picked zero f = refl
length-picked (suc n) f = one_more (f (suc n)) (suc n) (picked n f) ∙ ap (λ m. m + cond (f (suc n)) 1 0) (length-picked n f)

-- of what holds of f but not of g
three_ways : (b c : Bool) → cond b 1 0 ≤ cond (b && not c) 1 0 + cond c 1 0
three_ways true true = omega arith
three_ways true false = omega arith
three_ways false true = omega arith
three_ways false false = omega arith

pub how_many_apart : (n : ℕ) (f g : ℕ → Bool) → how_many n f ≤ how_many n (λ k. f k && not (g k)) + how_many n g
how_many_apart zero f g = omega arith
how_many_apart (suc n) f g = omega (arith, how_many_apart n f g, three_ways (f (suc n)) (g (suc n)))

one_not : (b : Bool) → cond (not b) 1 0 + cond b 1 0 ≡ 1
one_not true = refl
one_not false = refl

pub how_many_not : (n : ℕ) (g : ℕ → Bool) → how_many n (λ k. not (g k)) + how_many n g ≡ n
how_many_not zero g = refl
how_many_not (suc n) g = omega (arith, how_many_not n g, one_not (g (suc n)))

imply_one : (b c : Bool) → (b ≡ true → c ≡ true) → cond b 1 0 ≤ cond c 1 0
imply_one true true h = omega arith
imply_one true false h = let e : false ≡ true = h refl in cc
imply_one false c h = omega arith

pub how_many_more : (n : ℕ) (f g : ℕ → Bool) → ((k : ℕ) → 1 ≤ k → k ≤ n → f k ≡ true → g k ≡ true) → how_many n f ≤ how_many n g
how_many_more zero f g h = omega arith
how_many_more (suc n) f g h =
    omega (arith, how_many_more n f g (λ k a b. h k a (omega arith)), imply_one (f (suc n)) (g (suc n)) (h (suc n) (omega arith) (omega arith)))

-- equal values
pub same-true : (a b : Fp) → same a b ≡ true → a ≡ b
same-true a b e = same_num a b (eqb-true a.num b.num e)

pub same_from : (a b : Fp) → a ≡ b → same a b ≡ true
same_from a b e = eq-eqb a.num b.num (ap (λ (x : Fp). x.num) e)

crossing_is : (s t : Crossing) → s.row ≡ t.row → s.column ≡ t.column → s ≡ t
crossing_is s t e f = ap₂ (λ (a b : Fp). let t : Crossing = record { row = a; column = b } in t) e f

pub same_crossing-true : (s t : Crossing) → same_crossing s t ≡ true → s ≡ t
same_crossing-true s t e =
    let both : (same s.row t.row ≡ true) × (same s.column t.column ≡ true) = and_parts (same s.row t.row) (same s.column t.column) e in
    crossing_is s t (same-true s.row t.row both.0) (same-true s.column t.column both.1)

pub same_crossing_from : (s t : Crossing) → s ≡ t → same_crossing s t ≡ true
same_crossing_from s t e =
    and_from (same s.row t.row) (same s.column t.column) (same_from s.row t.row (ap (λ (x : Crossing). x.row) e)) (same_from s.column t.column (ap (λ (x : Crossing). x.column) e))
