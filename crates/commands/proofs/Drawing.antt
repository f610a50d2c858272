-- Seeds taken one after the other.
use Rattle.std.proofs.Common.{◌≡◌, ℕ, ◌<◌, ◌≤◌, List, [], ◌∷◌, ◌++◌, length, drop, Option, Some, None, Result, Ok, Err, IfSome, IfErr, refl, sym, ap, ◌∙◌, subst, arith, append_assoc, length-append}
use Rattle.std.proofs.lemmas.List.{drop_at}
use Rattle.shelf.specs.Causes.{Takes, HasMore}
use Rattle.keyroom.specs.Outcome.{AreFirst}
use Rattle.commands.specs.Planning.{Took, TookUpTo}

-- these seeds were taken from the front
abbrev pub Drawn : List (List ℕ) → Option (List (List ℕ)) → Option (List (List ℕ)) → Type 0
Drawn seeds None now = now ≡ None
Drawn seeds (Some coming) now = (rest : List (List ℕ)) × (coming ≡ seeds ++ rest) × (now ≡ Some rest)

pub drawn_none : (from : Option (List (List ℕ))) → Drawn [] from from
drawn_none None = refl
drawn_none (Some coming) = (coming, refl, refl)

taken_at : (seed : List ℕ) (rest : List (List ℕ)) (mid new : Option (List (List ℕ))) → mid ≡ Some rest → Takes seed mid new → (after : List (List ℕ)) × (rest ≡ seed ∷ after) × (new ≡ Some after)
taken_at seed rest None new is takes = absurd cc
taken_at seed rest (Some []) new is takes = absurd takes
taken_at seed rest (Some (first ∷ after)) new is takes = (after, let same : rest ≡ first ∷ after = cc in same ∙ ap (λ (s : List ℕ). s ∷ after) (sym takes.0), takes.1)

none_taken : (seed : List ℕ) (mid new : Option (List (List ℕ))) → mid ≡ None → Takes seed mid new → new ≡ None
none_taken seed None new is takes = takes
none_taken seed (Some coming) new is takes = absurd cc

pub drawn_more : (seeds : List (List ℕ)) (seed : List ℕ) (from mid new : Option (List (List ℕ))) → Drawn seeds from mid → Takes seed mid new → Drawn (seeds ++ seed ∷ []) from new
drawn_more seeds seed None mid new drawn takes = none_taken seed mid new drawn takes
drawn_more seeds seed (Some coming) mid new drawn takes =
    let t = taken_at seed drawn.0 mid new drawn.2 takes in
    (t.0, drawn.1 ∙ ap (λ (r : List (List ℕ)). seeds ++ r) t.1 ∙ sym (append_assoc seeds (seed ∷ []) t.0), t.2)

pub drawn_first : (seeds : List (List ℕ)) (from now : Option (List (List ℕ))) → Drawn seeds from now → AreFirst seeds from
drawn_first seeds None now drawn = tt
drawn_first seeds (Some coming) now drawn = (drawn.0, drawn.1)

pub drawn_took : (count : ℕ) (seeds : List (List ℕ)) (from now : Option (List (List ℕ))) → length seeds ≡ count → Drawn seeds from now → Took count from now
drawn_took count seeds None now e drawn = record { there = tt; gone = drawn }
drawn_took count seeds (Some coming) now e drawn = record {
  there = omega (arith, e, ap length drawn.1, length-append seeds drawn.0);
  gone = drawn.2 ∙ ap Some (sym (ap (drop count) drawn.1 ∙ drop_at seeds drawn.0 count e));
}

more_at : (rest : List (List ℕ)) (now : Option (List (List ℕ))) → now ≡ Some rest → 0 < length rest → HasMore now
more_at [] now e some = absurd (omega arith)
more_at (first ∷ rest) now e some = rw e tt

-- while fewer seeds than there are were taken, another is to come
pub drawn_has_more : (count : ℕ) (seeds : List (List ℕ)) (from now : Option (List (List ℕ))) → length seeds < count → IfSome from (λ s. count ≤ length s) → Drawn seeds from now → HasMore now
drawn_has_more count seeds None now lt enough drawn = rw drawn tt
drawn_has_more count seeds (Some coming) now lt enough drawn = more_at drawn.0 now drawn.2 (omega (arith, lt, enough, ap length drawn.1, length-append seeds drawn.0))

-- so many were taken
pub drawn_some : (count : ℕ) (seeds : List (List ℕ)) (from now : Option (List (List ℕ))) → length seeds ≤ count → Drawn seeds from now → TookUpTo count from now
drawn_some count seeds from now le drawn = (length seeds, le, drawn_took (length seeds) seeds from now refl drawn)

-- a call that took none
pub drawn_still : (seeds : List (List ℕ)) (from mid now : Option (List (List ℕ))) → Drawn seeds from mid → now ≡ mid → Drawn seeds from now
drawn_still seeds from mid now drawn same = subst (Drawn seeds from) (sym same) drawn

-- what is left, said of a refusal
pub some_refused : {X E : Type 0} {P : Type 0} (r : Result X E) → P → IfErr r (λ _. P)
some_refused (Ok x) p = tt
some_refused (Err e) p = p
