-- Marks of the members, one after the other.
use Rattle.std.proofs.Common.{◌≡◌, ℕ, ◌+◌, ◌-◌, ◌≤◌, Bool, List, [], ◌∷◌, ◌++◌, map, refl, sym, ap, ◌∙◌, arith, subst}
use Rattle.std.specs.List.{range_with_len}
use Rattle.std.proofs.lemmas.List.FromFn.{map-range_with_len_more}
use Rattle.commands.specs.Phase.{marks_of}

pub marks_none : (f : ℕ → Bool) → [] ≡ marks_of f (1 - 1)
marks_none f = refl

pub marks_more : (f : ℕ → Bool) (old new : List Bool) (seat : ℕ) (mark : Bool) → 1 ≤ seat → old ≡ marks_of f (seat - 1) → new ≡ old ++ mark ∷ [] → mark ≡ f seat → new ≡ marks_of f (seat + 1 - 1)
marks_more f old new seat mark low so_far pushed is =
    let more : seat + 1 - 1 ≡ seat - 1 + 1 = omega (arith, low) in
    pushed ∙ ap (λ (xs : List Bool). xs ++ mark ∷ []) so_far ∙ ap (λ (b : Bool). map f (range_with_len 1 (seat - 1)) ++ b ∷ []) is
    ∙ sym (map-range_with_len_more f 1 (seat - 1) seat (omega (arith, low))) ∙ ap (λ n. map f (range_with_len 1 n)) (sym more)

pub marks_all : (f : ℕ → Bool) (marks : List Bool) (seat n : ℕ) → seat ≡ n + 1 → marks ≡ marks_of f (seat - 1) → marks ≡ marks_of f n
marks_all f marks seat n e so_far = let at : seat - 1 ≡ n = omega (arith, e) in subst (λ k. marks ≡ marks_of f k) at so_far
