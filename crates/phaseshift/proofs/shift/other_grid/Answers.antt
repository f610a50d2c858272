use Rattle.std.proofs.Common.{◌≡◌, ◌+◌, ◌≤◌, true, length, get_or, sym, ◌∙◌, subst, arith}
use Rattle.algebra61.specs.Field.{zeroₚ}
use Rattle.bivar61.specs.Grids.{IsGrid}
use Rattle.talk.specs.Sync.{has}
use Rattle.choices61.specs.Translation.{is_translated}
use Rattle.playback.specs.Recorded.{kind_of}
use Rattle.playback.proofs.Places.{default_any}
use Rattle.phaseshift.specs.Factors.{grid_with, multiplied}
use Rattle.phaseshift.proofs.Pushing.{both_ok}
use Rattle.phaseshift.proofs.Grids.{grid_at_dealer, grid_made}
use Rattle.phaseshift.proofs.Multiples.{multiplied_short, short_as}
use Rattle.phaseshift.proofs.shift.other_grid.Goals as goal

pub add_product-requires-clause-in_x : goal.add_product-requires-clause-in_x
add_product-requires-clause-in_x c =
    let is : IsGrid c.args.phase.now.setting.degree c.grid-grid.result.now =
    subst (IsGrid c.args.phase.now.setting.degree) (sym c.grid-grid.ensures) (grid_at_dealer c.args.phase.now c.requires.kept c.args.dealer c.args.lane c.requires.dealer.0 c.requires.dealer.1 c.requires.lane c.requires.up) in
    let named : is_translated (kind_of c.args.phase.now.kind) c.args.phase.now.setting (has c.args.phase.now.down) c.args.dealer ≡ true = sym c.is_translated.ensures ∙ c.if-not-is_translated.false in
    omega (arith, is.in_x, (c.requires.place (c.args.dealer, named)).0)

pub add_product-requires-clause-in_y : goal.add_product-requires-clause-in_y
add_product-requires-clause-in_y c =
    let is : IsGrid c.args.phase.now.setting.degree c.grid-grid.result.now =
    subst (IsGrid c.args.phase.now.setting.degree) (sym c.grid-grid.ensures) (grid_at_dealer c.args.phase.now c.requires.kept c.args.dealer c.args.lane c.requires.dealer.0 c.requires.dealer.1 c.requires.lane c.requires.up) in
    let named : is_translated (kind_of c.args.phase.now.kind) c.args.phase.now.setting (has c.args.phase.now.down) c.args.dealer ≡ true = sym c.is_translated.ensures ∙ c.if-not-is_translated.false in
    let short : length c.in_ok-in_y.in_y.coeffs ≤ c.args.phase.now.setting.degree + 1 =
    short_as c.in_ok-in_y.in_y (multiplied c.args.factors.now (get_or c.args.difference.now c.args.lane c.index-difference-lane.result) c.args.dealer) (c.args.phase.now.setting.degree + 1) c.in_ok-in_y.ensures
    (multiplied_short c.args.factors.now (get_or c.args.difference.now c.args.lane c.index-difference-lane.result) c.args.dealer (c.args.phase.now.setting.degree + 1) (c.requires.place (c.args.dealer, named)).1) in
    omega (arith, is.in_x, short)

pub returns : goal.returns
returns c =
    let named : is_translated (kind_of c.args.phase.now.kind) c.args.phase.now.setting (has c.args.phase.now.down) c.args.dealer ≡ true = sym c.is_translated.ensures ∙ c.if-not-is_translated.false in
    let in_lane : get_or c.args.difference.now c.args.lane c.index-difference-lane.result ≡ get_or c.args.difference.now c.args.lane zeroₚ =
    default_any c.args.difference.now c.args.lane _ zeroₚ (omega (arith, c.requires.lane, c.type_inv.difference)) in
    both_ok _ _ (λ g. g ≡ grid_with c.args.phase.now c.args.factors.now (λ lane. get_or c.args.difference.now lane zeroₚ) c.args.dealer c.args.lane) c.add_product.result
    (λ g shape at.
    grid_made c.args.phase.now c.args.factors.now (λ lane. get_or c.args.difference.now lane zeroₚ) c.requires.kept c.requires.place c.args.dealer c.args.lane c.requires.dealer.0 c.requires.dealer.1 c.requires.lane c.requires.up named
    c.grid-grid.result.now g c.in_ok-in_y.in_y (get_or c.args.difference.now c.args.lane c.index-difference-lane.result) c.grid-grid.ensures in_lane c.in_ok-in_y.ensures shape at)
    c.add_product.ensures.shape c.add_product.ensures.coefficients
