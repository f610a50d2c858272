-- The factors of a phase, by its kind: what they are, and how long.
use Rattle.std.proofs.Common.{◌≡◌, ℕ, suc, ◌+◌, ◌≤◌, Bool, true, eqb, List, [], ◌∷◌, length, refl, sym, ap, ap₂, ◌∙◌, arith}
use Rattle.std.proofs.lemmas.Bool.{and_parts, leb-true}
use Rattle.algebra61.specs.Field.{Fp, fe, zeroₚ, oneₚ, negₚ, ◌+ₚ◌, ◌*ₚ◌}
use Rattle.algebra61.specs.Poly.{eval, coeff, add_list, scale_list}
use Rattle.algebra61.specs.Polynomial.{Polynomial, poly}
use Rattle.algebra61.proofs.Ring.{one_mul, dif-same, difs, by_dif1}
use Rattle.algebra61.proofs.Dual.{coeff-add, coeff-scale}
use Rattle.algebra61.proofs.PolyOps.{length-add, length-scale}
use Rattle.poly61.proofs.Coefficients.{eval-poly, length-poly}
use Rattle.sharing61.specs.Count.{how_many}
use Rattle.talk.specs.Shape.{Shape}
use Rattle.talk.specs.Sync.{has}
use Rattle.plays.specs.Play.{seat_of}
use Rattle.histories61.specs.Phases.{Kind, Created, Refreshed, Moved}
use Rattle.choices61.specs.Sets.{vanisher_of, over_y, lowest_out}
use Rattle.choices61.specs.Translation.{factor_in_x, factor_in_y, is_translated}
use Rattle.choices61.proofs.Sets.{length-vanisher_of, length-over_y, vanisher_of_same}
use Rattle.playback.specs.declared.phase.PhaseKind.{PhaseKind}
use Rattle.playback.specs.declared.phase.PhaseKind.TheVariants.{Refresh}
use Rattle.playback.specs.declared.phase.Phase.{Phase}
use Rattle.playback.specs.Recorded.{kind_of}
use Rattle.phaseshift.specs.declared.factors.Factors.{Factors}
use Rattle.phaseshift.specs.Members.{behind}
use Rattle.phaseshift.specs.Factors.{gap_over_y, unit_in_y, weights_of, AreFactors, multiplied, HavePlace}
use Rattle.phaseshift.specs.Shift.{HasRoom, down_among}
use Rattle.phaseshift.proofs.Coefficients.{coeff_of, poly_same, coeff-over_y}
use Rattle.phaseshift.proofs.Members.{front}

-- ---- as they are made
pub vanisher_front : (n mask : ℕ) (p : Polynomial) → p ≡ poly (vanisher_of n (behind mask 0)) → p ≡ poly (vanisher_of n (has mask))
vanisher_front n mask p e = e ∙ ap poly (vanisher_of_same n (behind mask 0) (has mask) (λ k from to. front mask k))

pub gap_made : (to from negative gap made : Polynomial) (minus : Fp) → minus ≡ negₚ oneₚ → negative ≡ poly (scale_list minus from.coeffs) →
    gap ≡ poly (add_list to.coeffs negative.coeffs) → made ≡ poly (over_y gap.coeffs) → made ≡ poly (gap_over_y to.coeffs from.coeffs)
gap_made to from negative gap made minus em en eg e =
    e
    ∙ poly_same (over_y gap.coeffs) (gap_over_y to.coeffs from.coeffs)
    (λ k.
    coeff-over_y gap.coeffs k
    ∙ coeff_of gap (add_list to.coeffs negative.coeffs) eg (suc k)
    ∙ coeff-add to.coeffs negative.coeffs (suc k)
    ∙ ap (λ v. coeff to.coeffs (suc k) +ₚ v) (coeff_of negative (scale_list minus from.coeffs) en (suc k) ∙ ap (λ v. coeff (scale_list v from.coeffs) (suc k)) em)
    ∙ sym (coeff-add to.coeffs (scale_list (negₚ oneₚ) from.coeffs) (suc k))
    ∙ sym (coeff-over_y (add_list to.coeffs (scale_list (negₚ oneₚ) from.coeffs)) k))

coeff-gap : (to from : List Fp) (k : ℕ) → coeff (gap_over_y to from) k ≡ coeff to (suc k) +ₚ negₚ oneₚ *ₚ coeff from (suc k)
coeff-gap to from k =
    coeff-over_y (add_list to (scale_list (negₚ oneₚ) from)) k
    ∙ coeff-add to (scale_list (negₚ oneₚ) from) (suc k)
    ∙ ap (λ v. coeff to (suc k) +ₚ v) (coeff-scale (negₚ oneₚ) from (suc k))

pub gap_of : (to from made : Polynomial) (v w : List Fp) → to ≡ poly v → from ≡ poly w → made ≡ poly (gap_over_y to.coeffs from.coeffs) → made ≡ poly (gap_over_y v w)
gap_of to from made v w et ef e =
    e
    ∙ poly_same (gap_over_y to.coeffs from.coeffs) (gap_over_y v w)
    (λ k.
    coeff-gap to.coeffs from.coeffs k
    ∙ ap₂ (λ x y. x +ₚ negₚ oneₚ *ₚ y) (coeff_of to v et (suc k)) (coeff_of from w ef (suc k))
    ∙ sym (coeff-gap v w k))

-- in a refresh
pub gap_for : (k : PhaseKind) (shape : Shape) (before after n m : ℕ) (to from made : Polynomial) → k ≡ Refresh → n ≡ shape.receivers → m ≡ shape.dealers →
    to ≡ poly (vanisher_of n (behind after 0)) → from ≡ poly (vanisher_of m (behind before 0)) → made ≡ poly (gap_over_y to.coeffs from.coeffs) →
    made ≡ poly (unit_in_y (kind_of k) shape (has before) (has after))
gap_for k shape before after n m to from made ek en em et ef e =
    gap_of to from made (vanisher_of shape.receivers (has after)) (vanisher_of shape.dealers (has before))
    (vanisher_front shape.receivers after to (et ∙ ap (λ i. poly (vanisher_of i (behind after 0))) en))
    (vanisher_front shape.dealers before from (ef ∙ ap (λ i. poly (vanisher_of i (behind before 0))) em)) e
    ∙ ap (λ (j : PhaseKind). poly (unit_in_y (kind_of j) shape (has before) (has after))) (sym ek)

-- ---- for a dealer and a lane
constant_ring : (x : Fp) → oneₚ +ₚ x *ₚ zeroₚ ≡ oneₚ
constant_ring = by_dif1 _ (λ m. simp difs (dif-same _ _ _ _ (omega arith)))

same_weight : (difference x : Fp) → difference ≡ eval (oneₚ ∷ []) x *ₚ difference
same_weight difference x = sym (ap (λ v. v *ₚ difference) (constant_ring x) ∙ one_mul difference)

pub factor_is : (kind : Kind) (shape : Shape) (before after : ℕ → Bool) (difference : Fp) (dealer : ℕ) →
    factor_in_y kind shape before after difference dealer ≡ scale_list (eval (weights_of kind shape before) (fe dealer) *ₚ difference) (unit_in_y kind shape before after)
factor_is Created shape before after difference dealer = ap (λ v. scale_list v (vanisher_of shape.receivers after)) (same_weight difference (fe dealer))
factor_is Refreshed shape before after difference dealer =
    ap (λ v. scale_list v (gap_over_y (vanisher_of shape.receivers after) (vanisher_of shape.dealers before))) (same_weight difference (fe dealer))
factor_is Moved shape before after difference dealer = refl

-- the factor in y that is made has its coefficients
pub multiplied_is : (kind : Kind) (shape : Shape) (down before after : ℕ → Bool) (factors : Factors) (difference : Fp) (dealer k : ℕ) →
    AreFactors kind shape down before after factors → coeff (multiplied factors difference dealer) k ≡ coeff (factor_in_y kind shape before after difference dealer) k
multiplied_is kind shape down before after factors difference dealer k are =
    let weight : eval factors.weights.coeffs (fe dealer) ≡ eval (weights_of kind shape before) (fe dealer) =
    ap (λ (p : Polynomial). eval p.coeffs (fe dealer)) are.weights_are ∙ eval-poly (weights_of kind shape before) (fe dealer) in
    coeff-scale (eval factors.weights.coeffs (fe dealer) *ₚ difference) factors.in_y.coeffs k
    ∙ ap₂ (λ w c. (w *ₚ difference) *ₚ c) weight (coeff_of factors.in_y (unit_in_y kind shape before after) are.in_y_is k)
    ∙ sym (coeff-scale (eval (weights_of kind shape before) (fe dealer) *ₚ difference) (unit_in_y kind shape before after) k)
    ∙ ap (λ cs. coeff cs k) (sym (factor_is kind shape before after difference dealer))

-- ---- lengths
pub record AreShort (kind : Kind) (shape : Shape) (down before after : ℕ → Bool) : Type 0 where
  pub short_x : length (factor_in_x shape down) ≤ shape.degree + 1
  pub short_y : length (unit_in_y kind shape before after) ≤ shape.degree + 1

vanisher_short : (shape : Shape) (set : ℕ → Bool) (n d : ℕ) → how_many n set ≤ d → length (vanisher_of n set) ≤ d + 1
vanisher_short shape set n d le = omega (arith, length-vanisher_of n set, le)

gap_short : (to from : List Fp) (n : ℕ) → length to ≤ n + 1 → length from ≤ n + 1 → length (gap_over_y to from) ≤ n
gap_short to from n lt lf =
    omega (
      arith,
      length-over_y (add_list to (scale_list (negₚ oneₚ) from)),
      length-add to (scale_list (negₚ oneₚ) from),
      length-scale (negₚ oneₚ) from,
      lt,
      lf,
    )

pub are_short : (kind : Kind) (shape : Shape) (down before after : ℕ → Bool) (dealer : ℕ) → HasRoom kind shape down before after → is_translated kind shape down dealer ≡ true → AreShort kind shape down before after
are_short Created shape down before after dealer room e = record {
  short_x = vanisher_short shape (λ receiver. down (seat_of shape receiver)) shape.receivers shape.degree room.0;
  short_y = vanisher_short shape after shape.receivers shape.degree room.1;
}
are_short Refreshed shape down before after dealer room e = record {
  short_x = vanisher_short shape (λ receiver. down (seat_of shape receiver)) shape.receivers shape.degree
      (leb-true (down_among shape down) shape.degree (and_parts (eqb dealer (lowest_out shape.dealers down)) _ e).1);
  short_y = gap_short (vanisher_of shape.receivers after) (vanisher_of shape.dealers before) (shape.degree + 1)
      (vanisher_short shape after shape.receivers (shape.degree + 1) room.1) (vanisher_short shape before shape.dealers (shape.degree + 1) room.0);
}
are_short Moved shape down before after dealer room e = record {
  short_x = vanisher_short shape (λ receiver. down (seat_of shape receiver)) shape.receivers shape.degree room.0;
  short_y = vanisher_short shape after shape.receivers shape.degree room.1;
}

pub short_as : (p : Polynomial) (l : List Fp) (n : ℕ) → p ≡ poly l → length l ≤ n → length p.coeffs ≤ n
short_as p l n e le =
    let same : length p.coeffs ≡ length (poly l).coeffs = ap (λ (q : Polynomial). length q.coeffs) e in
    omega (arith, same, length-poly l, le)

pub have_place : (phase : Phase) (before after : ℕ → Bool) (factors : Factors) → HasRoom (kind_of phase.kind) phase.setting (has phase.down) before after →
    AreFactors (kind_of phase.kind) phase.setting (has phase.down) before after factors → HavePlace phase factors
have_place phase before after factors room are some =
    let short = are_short (kind_of phase.kind) phase.setting (has phase.down) before after some.0 room some.1 in (
      short_as factors.in_x (factor_in_x phase.setting (has phase.down)) (phase.setting.degree + 1) are.in_x_is short.short_x,
      short_as factors.in_y (unit_in_y (kind_of phase.kind) phase.setting before after) (phase.setting.degree + 1) are.in_y_is short.short_y,
    )

-- a multiple is no longer
pub multiplied_short : (factors : Factors) (difference : Fp) (dealer n : ℕ) → length factors.in_y.coeffs ≤ n → length (multiplied factors difference dealer) ≤ n
multiplied_short factors difference dealer n le = omega (arith, length-scale (eval factors.weights.coeffs (fe dealer) *ₚ difference) factors.in_y.coeffs, le)
