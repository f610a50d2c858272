-- A move whose honest dealers share the values of one short polynomial: it has its error vectors, and the moved shares lie on
-- one polynomial with the same value at 0.
use Rattle.std.proofs.Common.{◌≡◌, ℕ, zero, suc, ◌+◌, ◌<◌, ◌≤◌, Bool, true, false, cond, eqb, List, [], ◌∷◌, length, get_or, refl, sym, ap, ◌∙◌, subst, arith}
use Rattle.std.proofs.lemmas.Bool.{eq-eqb}
use Rattle.algebra61.specs.Field.{Fp, fe, zeroₚ, ◌-ₚ◌}
use Rattle.algebra61.specs.Poly.{eval}
use Rattle.algebra61.specs.Grid.{grid_at}
use Rattle.algebra61.proofs.Ring.{sub_self}
use Rattle.algebra61.proofs.Inverse.{num-zero}
use Rattle.checks61.specs.Checks.{entry, nonzero_to, difference_from}
use Rattle.checks61.proofs.Errors.{difference_at}
use Rattle.sharing61.specs.Count.{how_many}
use Rattle.sizes.specs.Instances.{instance_at}
use Rattle.plays.specs.Play.{Play, instance_of}
use Rattle.periods.specs.Move.{syndromes_heard, IsLaneError, moved_share, AreConstants, IsWithin, IsMove}
use Rattle.periods.specs.Laws.{LieOn}
use Rattle.periods.proofs.Polynomials.{Constants, constants_of, one_constant, honest_constant, number_below}
use Rattle.periods.proofs.Moving.{one_lane_error, move_keeps}
use Rattle.histories61.specs.Course.{HasErrors}

-- the honest dealers share values of the polynomial
abbrev pub ShareValues : Play → ℕ → List Fp → Type 0
ShareValues p l q = (i : ℕ) → 1 ≤ i → i ≤ p.shape.dealers → p.down i ≡ false → grid_at (p.grid (instance_at i l)) zeroₚ zeroₚ ≡ eval q (fe i)

-- ---- errors are at those who are down alone
at_most : (b : Bool) → cond b 0 1 ≤ 1
at_most true = omega arith
at_most false = omega arith

none_at : (x : Fp) → x ≡ zeroₚ → cond (eqb x.num 0) 0 1 ≤ 0
none_at x e = let n : x.num ≡ 0 = ap (λ (y : Fp). y.num) e ∙ num-zero in subst (λ b. cond b 0 1 ≤ 0) (sym (eq-eqb x.num 0 n)) (omega arith)

one_down : (b : Bool) (x : Fp) → (b ≡ false → x ≡ zeroₚ) → cond (eqb x.num 0) 0 1 ≤ cond b 1 0
one_down true x h = at_most (eqb x.num 0)
one_down false x h = none_at x (h refl)

nonzero_down : (n : ℕ) (v : ℕ → Fp) (down : ℕ → Bool) → ((i : ℕ) → 1 ≤ i → i ≤ n → down i ≡ false → v i ≡ zeroₚ) → nonzero_to n v ≤ how_many n down
nonzero_down zero v down h = omega arith
nonzero_down (suc n) v down h =
    omega (arith, nonzero_down n v down (λ i a b. h i a (omega arith)), one_down (down (suc n)) (v (suc n)) (h (suc n) (omega arith) (omega arith)))

within : (t : ℕ) (p : Play) (l : ℕ) (c : ℕ → Fp) (q : List Fp) → IsMove t p → l < 5 → AreConstants p l c → length q ≤ t + 1 → ShareValues p l q → how_many p.shape.dealers p.down ≤ t →
    IsWithin p.shape.dealers t c q
within t p l c q h l5 are short values few = record {
  short = short;
  few =
      omega (
        arith,
        few,
        nonzero_down p.shape.dealers (entry (difference_from p.shape.dealers c q)) p.down
            (λ i a b up.
            difference_at p.shape.dealers i c q a b
            ∙ ap (λ v. v -ₚ eval q (fe i))
            (one_constant p.shape.degree (instance_of p (instance_at i l)) (c i) (grid_at (p.grid (instance_at i l)) zeroₚ zeroₚ) (h.proper (instance_at i l) (number_below p i l a b l5)) (are i a b) (honest_constant p i l h.proper a b l5 up)
            ∙ values i a b up)
            ∙ sub_self (eval q (fe i))),
      );
}

-- ---- the moved shares
pub moved_polynomial : (t l : ℕ) (p : Play) (q e : List Fp) → IsMove t p → l < 5 → length q ≤ t + 1 → ShareValues p l q → how_many p.shape.dealers p.down ≤ t → IsLaneError p.shape (syndromes_heard p) l e →
    (f : List Fp) × (eval f zeroₚ ≡ eval q zeroₚ) × LieOn p p.shape.degree (moved_share p l e) f
moved_polynomial t l p q e h l5 short values few is =
    let cs : Constants p l = constants_of p l h.proper l5 in
    let d : List Fp = difference_from p.shape.dealers cs.value q in
    let got = move_keeps t p l cs.value q h l5 cs.are (within t p l cs.value q h l5 cs.are short values few) in
    let same : e ≡ d = one_lane_error t p l e d h is got.0 in
    (got.1.0, got.1.1, record { short = got.1.2.short; values = λ j s. ap (λ x. moved_share p l x j) same ∙ got.1.2.values j s })

-- ---- the error vectors
five_each : (p : Play) (es : List (List Fp)) → IsLaneError p.shape (syndromes_heard p) 0 (get_or es 0 []) → IsLaneError p.shape (syndromes_heard p) 1 (get_or es 1 []) → IsLaneError p.shape (syndromes_heard p) 2 (get_or es 2 []) →
    IsLaneError p.shape (syndromes_heard p) 3 (get_or es 3 []) → IsLaneError p.shape (syndromes_heard p) 4 (get_or es 4 []) →
    (l : ℕ) → l < 5 → IsLaneError p.shape (syndromes_heard p) l (get_or es l [])
five_each p es a b c d e zero lt = a
five_each p es a b c d e (suc zero) lt = b
five_each p es a b c d e (suc (suc zero)) lt = c
five_each p es a b c d e (suc (suc (suc zero))) lt = d
five_each p es a b c d e (suc (suc (suc (suc zero)))) lt = e
five_each p es a b c d e (suc (suc (suc (suc (suc k))))) lt = absurd (omega (arith, lt))

pub errors_of_move : (t : ℕ) (p : Play) → IsMove t p → how_many p.shape.dealers p.down ≤ t → (q : (l : ℕ) → l < 5 → List Fp) → ((l : ℕ) (l5 : l < 5) → length (q l l5) ≤ t + 1) → ((l : ℕ) (l5 : l < 5) → ShareValues p l (q l l5)) →
    (errors : List (List Fp)) × HasErrors p errors
errors_of_move t p h few q short values =
    let c : (l : ℕ) → l < 5 → Constants p l = λ l l5. constants_of p l h.proper l5 in
    let one : (l : ℕ) → l < 5 → (e : List Fp) × IsLaneError p.shape (syndromes_heard p) l e = λ l l5. (
      difference_from p.shape.dealers (c l l5).value (q l l5),
      (move_keeps t p l (c l l5).value (q l l5) h l5 (c l l5).are (within t p l (c l l5).value (q l l5) h l5 (c l l5).are (short l l5) (values l l5) few)).0,
    ) in
    let es : List (List Fp) =
    (one 0 (omega arith)).0 ∷ (one 1 (omega arith)).0 ∷ (one 2 (omega arith)).0 ∷ (one 3 (omega arith)).0 ∷ (one 4 (omega arith)).0 ∷ [] in
    (es, record { five = refl; each = five_each p es ((one 0 (omega arith)).1) ((one 1 (omega arith)).1) ((one 2 (omega arith)).1) ((one 3 (omega arith)).1) ((one 4 (omega arith)).1) })
