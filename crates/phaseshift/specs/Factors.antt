-- The factors of the products that a translation adds, before they are multiplied for a dealer and a lane.
use Rattle.std.specs.Prelude.{◌≡◌, ℕ, ◌+◌, ◌≤◌, Bool, true, cond, List, [], ◌∷◌, length, map}
use Rattle.std.specs.List.{flat_map}
use Rattle.algebra61.specs.Field.{Fp, fe, oneₚ, negₚ, ◌*ₚ◌}
use Rattle.algebra61.specs.Poly.{eval, add_list, scale_list}
use Rattle.algebra61.specs.Polynomial.{poly}
use Rattle.algebra61.specs.Grid.{add_product}
use Rattle.sizes.specs.Instances.{instance_at}
use Rattle.talk.specs.Shape.{Shape}
use Rattle.talk.specs.Sync.{has}
use Rattle.plays.specs.Said.{places, points_up_to}
use Rattle.histories61.specs.Phases.{Kind, Created, Refreshed, Moved}
use Rattle.choices61.specs.Sets.{vanisher_of, over_y}
use Rattle.choices61.specs.Translation.{factor_in_x, is_translated}
use Rattle.playback.specs.declared.phase.Phase.{Phase}
use Rattle.playback.specs.Recorded.{kind_of, play_of}
use Rattle.phaseshift.specs.declared.factors.Factors.{Factors}

-- the difference of two polynomials, divided by y
abbrev pub gap_over_y : List Fp → List Fp → List Fp
gap_over_y to from = over_y (add_list to (scale_list (negₚ oneₚ) from))

-- the factor in y where the weight is 1 and the keys differ by 1
abbrev pub unit_in_y : Kind → Shape → (ℕ → Bool) → (ℕ → Bool) → List Fp
unit_in_y Created shape before after = vanisher_of shape.receivers after
unit_in_y Refreshed shape before after = gap_over_y (vanisher_of shape.receivers after) (vanisher_of shape.dealers before)
unit_in_y Moved shape before after = vanisher_of shape.receivers after

-- the polynomial whose value at a dealer's point is the dealer's weight
abbrev pub weights_of : Kind → Shape → (ℕ → Bool) → List Fp
weights_of Created shape before = oneₚ ∷ []
weights_of Refreshed shape before = oneₚ ∷ []
weights_of Moved shape before = vanisher_of shape.dealers before

-- the factors of a phase
pub record AreFactors (kind : Kind) (shape : Shape) (down before after : ℕ → Bool) (factors : Factors) : Type 0 where
  pub in_x_is : factors.in_x ≡ poly (factor_in_x shape down)
  pub in_y_is : factors.in_y ≡ poly (unit_in_y kind shape before after)
  pub weights_are : factors.weights ≡ poly (weights_of kind shape before)

-- the factor in y for a dealer, where the keys differ by this element
abbrev pub multiplied : Factors → Fp → ℕ → List Fp
multiplied factors difference dealer = scale_list (eval factors.weights.coeffs (fe dealer) *ₚ difference) factors.in_y.coeffs

-- some grid gets the product of the factors
abbrev pub SomeTranslated : Phase → Type 0
SomeTranslated phase = (dealer : ℕ) × (is_translated (kind_of phase.kind) phase.setting (has phase.down) dealer ≡ true)

-- where some grid gets it, it is of the grids' degree
abbrev pub HavePlace : Phase → Factors → Type 0
HavePlace phase factors =
    SomeTranslated phase → (length factors.in_x.coeffs ≤ phase.setting.degree + 1) × (length factors.in_y.coeffs ≤ phase.setting.degree + 1)

-- ---- the grids with the products
abbrev pub grid_with : Phase → Factors → (ℕ → Fp) → ℕ → ℕ → List (List Fp)
grid_with phase factors difference dealer lane =
    cond (is_translated (kind_of phase.kind) phase.setting (has phase.down) dealer)
    (add_product ((play_of phase).grid (instance_at dealer lane)) factors.in_x.coeffs (multiplied factors (difference lane) dealer))
    ((play_of phase).grid (instance_at dealer lane))

-- those of a dealer, by lane; none where it is down
abbrev pub dealer_with : Phase → Factors → (ℕ → Fp) → ℕ → List (List (List Fp))
dealer_with phase factors difference dealer = cond (has phase.down dealer) [] (map (grid_with phase factors difference dealer) (places 5))

-- those of all dealers
abbrev pub grids_with : Phase → Factors → (ℕ → Fp) → List (List (List Fp))
grids_with phase factors difference = flat_map (dealer_with phase factors difference) (points_up_to phase.setting.dealers)
