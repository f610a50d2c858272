-- The translation of a phase: which products are added to which grids, so that the key becomes another and nobody who is
-- exposed can tell. It depends on the setting, on who is down or exposed, and on the difference of the keys, on nothing else.
use Rattle.std.specs.Prelude.{ℕ, Bool, ◌&&◌, not, eqb, List}
use Rattle.std.proofs.Common.{leb}
use Rattle.algebra61.specs.Field.{Fp, fe, oneₚ, negₚ, ◌*ₚ◌}
use Rattle.algebra61.specs.Poly.{eval, add_list, scale_list}
use Rattle.sizes.specs.Instances.{dealer_of, lane_of}
use Rattle.sharing61.specs.Count.{how_many}
use Rattle.talk.specs.Shape.{Shape}
use Rattle.plays.specs.Play.{Play, seat_of}
use Rattle.histories61.specs.Phases.{Kind, Created, Refreshed, Moved}
use Rattle.choices61.specs.Sets.{vanisher_of, over_y, lowest_out}
use Rattle.choices61.specs.Products.{with_products}

-- before: who is exposed of the dealers' committee, in the period that the phase ends; a create reads nothing of it.
-- after: who is exposed of the receivers' committee, in the period that the phase begins

-- the factor in x: 1 at 0, and 0 at the receivers that are down
abbrev pub factor_in_x : Shape → (ℕ → Bool) → List Fp
factor_in_x shape down = vanisher_of shape.receivers (λ receiver. down (seat_of shape receiver))

-- the factor in y for a dealer, where the keys differ by this element. In a refresh y times it is the difference of the two
-- vanishing polynomials
abbrev pub factor_in_y : Kind → Shape → (ℕ → Bool) → (ℕ → Bool) → Fp → ℕ → List Fp
factor_in_y Created shape before after difference dealer = scale_list difference (vanisher_of shape.receivers after)
factor_in_y Refreshed shape before after difference dealer =
    scale_list difference (over_y (add_list (vanisher_of shape.receivers after) (scale_list (negₚ oneₚ) (vanisher_of shape.dealers before))))
factor_in_y Moved shape before after difference dealer =
    scale_list (eval (vanisher_of shape.dealers before) (fe dealer) *ₚ difference) (vanisher_of shape.receivers after)

-- whose grids get a product: in a create and a refresh those of the lowest honest dealer, in a move those of each. Where more
-- members are down than a refresh has degrees, they are all who are exposed before and after it, and no grid gets one
abbrev pub is_translated : Kind → Shape → (ℕ → Bool) → ℕ → Bool
is_translated Created shape down dealer = eqb dealer (lowest_out shape.dealers down)
is_translated Refreshed shape down dealer =
    eqb dealer (lowest_out shape.dealers down) && leb (how_many shape.receivers (λ receiver. down (seat_of shape receiver))) shape.degree
is_translated Moved shape down dealer = leb dealer shape.dealers && not (down dealer)

-- the phase with other grids; difference is by how much the key changes, by lane
abbrev pub translated_phase : Kind → Play → (ℕ → Bool) → (ℕ → Bool) → (ℕ → Fp) → Play
translated_phase kind play before after difference =
    with_products play (λ i. is_translated kind play.shape play.down (dealer_of i)) (factor_in_x play.shape play.down)
    (λ i. factor_in_y kind play.shape before after (difference (lane_of i)) (dealer_of i))

-- by how much the share of a member rises in a period with these members exposed: by the difference times the polynomial
-- that is 1 at 0 and 0 on the exposed
abbrev pub rise_in : ℕ → (ℕ → Bool) → Fp → ℕ → Fp
rise_in size exposed difference member = difference *ₚ eval (vanisher_of size exposed) (fe member)
