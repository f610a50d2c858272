use Rattle.std.proofs.Common.{◌∙◌}
use Rattle.rs61.proofs.ErrorLoops.{distinct_basis, basis_is}
use Rattle.rs61.proofs.errors.basis.Goals as goal

pub interpolate-requires : goal.interpolate-requires
interpolate-requires c = distinct_basis c.args.peak c.args.points c.as_slice.result.now c.requires.few (c.as_slice.ensures.value ∙ c.in_ok-list.ensures)

pub returns : goal.returns
returns c =
    basis_is c.args.points c.args.peak c.as_slice.result.now c.in_ok-poly.poly c.requires.few c.requires.point.0 c.requires.point.1 (c.as_slice.ensures.value ∙ c.in_ok-list.ensures) c.in_ok-poly.ensures
