-- Lists made place by place.
use Rattle.std.proofs.Common.{◌≡◌, ℕ, ◌+◌, ◌-◌, eqb, cond, List, [], ◌∷◌, ◌++◌, refl, sym, ap, ap₂, ◌∙◌, arith, map}
use Rattle.std.proofs.Math.Nat.{mod-one}
use Rattle.algebra61.specs.Field.{Fp, ◌+ₚ◌}
use Rattle.std.proofs.lemmas.List.FromFn.{map-range_with_len_more}
use Rattle.talk.specs.declared.messages.Ring.{Ring}
use Rattle.talk.specs.declared.messages.Ring.TheVariants.{Nothing, Cross}
use Rattle.drillbook.specs.Word.{added_from, added_each, garbled_rings}

-- at steps of one, something is added to each element
added_on : (k : Fp) (i : ℕ) (xs : List Fp) → added_from 1 k i xs ≡ map (λ x. x +ₚ k) xs
added_on k i [] = refl
added_on k i (x ∷ xs) = ap₂ (λ (r : ℕ) (ys : List Fp). cond (eqb r 0) (x +ₚ k) x ∷ ys) (mod-one i) (added_on k (i + 1) xs)

pub added_to_each : (k : Fp) (xs : List Fp) → added_each 1 k xs ≡ map (λ x. x +ₚ k) xs
added_to_each k xs = added_on k 0 xs

-- a loop over the messages of a garbled word
pub garbled_step : (n seat own : ℕ) (rings new : List Ring) (r : Ring) → rings ≡ garbled_rings n seat → own ≡ seat - 1 → r ≡ cond (eqb n own) Nothing (Cross []) → new ≡ rings ++ r ∷ [] → new ≡ garbled_rings (n + 1) seat
garbled_step n seat own rings new r before e is more =
    let at : r ≡ cond (eqb n (seat - 1)) Nothing (Cross []) = is ∙ ap (λ (k : ℕ). cond (eqb n k) Nothing (Cross [])) e in
    more
    ∙ ap₂ (λ (xs : List Ring) (x : Ring). xs ++ x ∷ []) before at
    ∙ sym (map-range_with_len_more (λ k. cond (eqb k (seat - 1)) Nothing (Cross [])) 0 n n (omega arith))
