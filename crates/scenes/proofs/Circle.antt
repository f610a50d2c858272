-- The first in a circle.
use Rattle.std.proofs.Common.{◌≡◌, ℕ, zero, suc, ◌+◌, ◌-◌, ◌%◌, ◌<◌, ◌≤◌, Bool, true, false, not, cond, List, [], ◌∷◌, ◌++◌, map, Option, Some, None, refl, sym, ap, ap₂, ◌∙◌, arith}
use Rattle.std.specs.List.{find, range_with_len}
use Rattle.scenes.specs.Members.{circle_from, first_unnamed}

-- a search over so many places from one on
abbrev pub found_from : {A : Type 0} → (A → Bool) → (ℕ → A) → ℕ → ℕ → Option A
found_from test at first count = find test (map at (range_with_len first count))

both_none : {A : Type 0} (b : Bool) (x : A) (rest : Option A) → cond b (Some x) rest ≡ None → (b ≡ false) × (rest ≡ None)
both_none true x rest e = let differ : Some x ≡ None = e in cc
both_none false x rest e = (refl, e)

-- where the first few places fail and the next one passes, that one is found
pub found_after : {A : Type 0} (test : A → Bool) (at : ℕ → A) (before first after : ℕ) → found_from test at first before ≡ None → test (at (first + before)) ≡ true → found_from test at first (before + suc after) ≡ Some (at (first + before))
found_after test at zero first after none passes =
    let here : first + 0 ≡ first = omega arith in
    let now : test (at first) ≡ true = ap (λ k. test (at k)) (sym here) ∙ passes in
    let count : 0 + suc after ≡ suc after = omega arith in
    ap (found_from test at first) count ∙ ap (λ b. cond b (Some (at first)) (found_from test at (first + 1) after)) now ∙ ap (λ k. Some (at k)) (sym here)
found_after test at (suc before) first after none passes =
    let parts : (test (at first) ≡ false) × (found_from test at (first + 1) before ≡ None) = both_none (test (at first)) (at first) (found_from test at (first + 1) before) none in
    let there : first + suc before ≡ first + 1 + before = omega arith in
    let now : test (at (first + 1 + before)) ≡ true = ap (λ k. test (at k)) (sym there) ∙ passes in
    let count : suc before + suc after ≡ suc (before + suc after) = omega arith in
    ap (found_from test at first) count
    ∙ ap (λ b. cond b (Some (at first)) (found_from test at (first + 1) (before + suc after))) parts.0
    ∙ found_after test at before (first + 1) after parts.1 now
    ∙ ap (λ k. Some (at k)) (sym there)

-- where the next one fails, none is found yet
pub none_after : {A : Type 0} (test : A → Bool) (at : ℕ → A) (before first : ℕ) → found_from test at first before ≡ None → test (at (first + before)) ≡ false → found_from test at first (before + 1) ≡ None
none_after test at zero first none fails =
    let here : first + 0 ≡ first = omega arith in
    let now : test (at first) ≡ false = ap (λ k. test (at k)) (sym here) ∙ fails in
    ap (λ b. cond b (Some (at first)) None) now
none_after test at (suc before) first none fails =
    let parts : (test (at first) ≡ false) × (found_from test at (first + 1) before ≡ None) = both_none (test (at first)) (at first) (found_from test at (first + 1) before) none in
    let there : first + suc before ≡ first + 1 + before = omega arith in
    let now : test (at (first + 1 + before)) ≡ false = ap (λ k. test (at k)) (sym there) ∙ fails in
    let count : suc before + 1 ≡ suc (before + 1) = omega arith in
    ap (found_from test at first) count
    ∙ ap (λ b. cond b (Some (at first)) (found_from test at (first + 1) (before + 1))) parts.0
    ∙ none_after test at before (first + 1) parts.1 now

-- what is found passes, and stands at one of the places
pub record IsFound {A : Type 0} (test : A → Bool) (at : ℕ → A) (first count : ℕ) (x : A) : Type 0 where
  pub passes : test x ≡ true
  pub place : (k : ℕ) × (first ≤ k) × (k < first + count) × (x ≡ at k)

abbrev found_or : {A : Type 0} → A → Option A → A
found_or other None = other
found_or other (Some x) = x

found_step : {A : Type 0} (test : A → Bool) (at : ℕ → A) (first count : ℕ) (b : Bool) (x : A) → test (at first) ≡ b → cond b (Some (at first)) (found_from test at (first + 1) count) ≡ Some x → (found_from test at (first + 1) count ≡ Some x → IsFound test at (first + 1) count x) → IsFound test at first (suc count) x
found_step test at first count true x here e later =
    let same : at first ≡ x = ap (found_or (at first)) e in
    record {
      passes = ap test (sym same) ∙ here;
      place = (first, omega arith, omega arith, sym same);
    }
found_step test at first count false x here e later =
    let rest = later e in
    let from : first + 1 ≤ rest.place.0 = rest.place.1 in
    let to : rest.place.0 < first + 1 + count = rest.place.2 in
    record {
      passes = rest.passes;
      place = (rest.place.0, omega (arith, from), omega (arith, to), rest.place.3);
    }

pub found_is : {A : Type 0} (test : A → Bool) (at : ℕ → A) (count first : ℕ) (x : A) → found_from test at first count ≡ Some x → IsFound test at first count x
found_is test at zero first x e = let differ : None ≡ Some x = e in cc
found_is test at (suc count) first x e = found_step test at first count (test (at first)) x refl e (found_is test at count (first + 1) x)

-- ---- in the circle
-- the member that a walk comes to after so many steps
abbrev pub come_to : ℕ → ℕ → ℕ → ℕ
come_to members first steps = 1 + (first + steps) % members

-- nobody was found in so many steps
abbrev pub NoneYet : ℕ → ℕ → (ℕ → Bool) → ℕ → Type 0
NoneYet members first test steps = found_from (λ member. not (test member)) (come_to members first) 0 steps ≡ None

pub none_next : (members first : ℕ) (test : ℕ → Bool) (steps : ℕ) → NoneYet members first test steps → test (come_to members first steps) ≡ true → NoneYet members first test (steps + 1)
none_next members first test steps none named =
    let here : steps ≡ 0 + steps = omega arith in
    let fails : not (test (come_to members first (0 + steps))) ≡ false = ap (λ k. not (test (come_to members first k))) (sym here) ∙ ap not named in
    none_after (λ member. not (test member)) (come_to members first) steps 0 none fails

pub here_found : (members first : ℕ) (test : ℕ → Bool) (steps : ℕ) → steps < members → NoneYet members first test steps → test (come_to members first steps) ≡ false → first_unnamed members first test ≡ Some (come_to members first steps)
here_found members first test steps lt none unnamed =
    let here : 0 + steps ≡ steps = omega arith in
    let passes : not (test (come_to members first (0 + steps))) ≡ true = ap (λ k. not (test (come_to members first k))) here ∙ ap not unnamed in
    let all : members ≡ steps + suc (members - steps - 1) = omega (arith, lt) in
    ap (found_from (λ member. not (test member)) (come_to members first) 0) all
    ∙ found_after (λ member. not (test member)) (come_to members first) steps 0 (members - steps - 1) none passes
    ∙ ap (λ k. Some (come_to members first k)) here
