-- A list for each lane, made lane by lane.
use Rattle.std.proofs.Common.{◌≡◌, ℕ, ◌+◌, inl, inr, List, [], ◌∷◌, ◌++◌, length, get_or, sym, ap, ◌∙◌, subst, arith}
use Rattle.std.proofs.lemmas.Bool.{cases_eq}
use Rattle.std.proofs.lemmas.List.{length-append, get_or_append_left, get_or_push}
use Rattle.algebra61.specs.Field.{Fp}
use Rattle.moveshare.specs.Lanes.{EachLane}

-- one lane more
pub lane_more : (is : ℕ → List Fp → Type 0) (k : ℕ) (before after : List (List Fp)) (list : List Fp) → EachLane k is before → is k list → after ≡ before ++ list ∷ [] → EachLane (k + 1) is after
lane_more is k before after list each here e = (
  omega (arith, ap length e, length-append before (list ∷ []), each.0),
  λ lane lt. subst (λ (v : List (List Fp)). is lane (get_or v lane [])) (sym e)
      (elim (cases_eq lane k) [
        | inl same ↦ subst (is lane) (sym (get_or_push before list [] lane (each.0 ∙ sym same))) (subst (λ n. is n list) (sym same) here)
        | inr ne ↦ subst (is lane) (sym (get_or_append_left before (list ∷ []) [] lane (omega (arith, lt, ne, each.0)))) (each.1 lane (omega (arith, lt, ne)))
      ]),
)
