-- Lanes decoded one after the other.
use Rattle.std.proofs.Common.{◌≡◌, inl, inr, ℕ, ◌+◌, ◌<◌, List, [], ◌∷◌, ◌++◌, length, Err, sym, ap, ◌∙◌, subst, arith, below_more}
use Rattle.std.proofs.lemmas.List.{get_or_append_left, get_or_push}
use Rattle.algebra61.specs.Polynomial.{Polynomial, poly}
use Rattle.algebra61.specs.Nearest.{IsNearest}
use Rattle.keyroom.specs.declared.steps.Found.{Found}
use Rattle.keyroom.specs.declared.status.Status.{Status}
use Rattle.keyroom.specs.Decoding.{values_in, lane_of, DecodesLane, Decodes}

-- the lanes below this one have their polynomials, and this one refuses
pub decode_failed : (t lane : ℕ) (files : List Found) (polys : List Polynomial) (status : Status) → lane < 5 →
    ((k : ℕ) → k < lane → IsNearest t (values_in k files) (lane_of polys k)) → DecodesLane t lane files (Err status) → Decodes t files (Err status)
decode_failed t lane files polys status within below (inl memory) = inl memory
decode_failed t lane files polys status within below (inr none) =
    inr (lane, none.0, record { within = within; without = none.1; before = λ l lt. (lane_of polys l, below l lt) })

-- one more lane
pub decode_more : (t lane : ℕ) (files : List Found) (polys new : List Polynomial) (p : Polynomial) → length polys ≡ lane →
    ((k : ℕ) → k < lane → IsNearest t (values_in k files) (lane_of polys k)) → IsNearest t (values_in lane files) p → new ≡ polys ++ p ∷ [] →
    (k : ℕ) → k < lane + 1 → IsNearest t (values_in k files) (lane_of new k)
decode_more t lane files polys new p count below here pushed =
    let P : ℕ → Type 0 = λ k. IsNearest t (values_in k files) (lane_of new k) in
    below_more P lane
    (λ k lt. subst (λ q. IsNearest t (values_in k files) q) (sym (ap (λ (ps : List Polynomial). lane_of ps k) pushed ∙ get_or_append_left polys (p ∷ []) (poly []) k (omega (arith, count, lt)))) (below k lt))
    (subst (λ q. IsNearest t (values_in lane files) q) (sym (ap (λ (ps : List Polynomial). lane_of ps lane) pushed ∙ get_or_push polys p (poly []) lane count)) here)
