use Rattle.std.proofs.Common.{◌≡◌, ap, sym, ◌∙◌, arith, length, subst}
use Rattle.algebra61.specs.Poly.{coeff}
use Rattle.algebra61.specs.Grid.{column}
use Rattle.bivar61.specs.Grids.{IsGrid}
use Rattle.bivar61.proofs.GridLemmas.{one_coeff_more, all_coeffs}
use Rattle.bivar61.proofs.Grid.column.Goals as goal

pub loop-b-preserved : goal.loop-b-preserved
loop-b-preserved c =
    let grid = subst (IsGrid c.self.inside.degree) c.self.view_is c.self.invariant in
    one_coeff_more c.self.inside.degree c.args.self.now c.reduce-point.result c.column_coeff.result c.loop-b.b c.loop-b.coefficients c.push.new.self
    grid (omega (arith, c.loop-b-test.true, c.len-b-end.ensures, ap length c.self.view_is)) c.loop-b.invariant c.column_coeff.ensures (c.in_ok-push.ensures)

pub returns : goal.returns
returns c =
    let grid = subst (IsGrid c.self.inside.degree) c.self.view_is c.self.invariant in
    let whole = all_coeffs c.self.inside.degree c.args.self.now c.reduce-point.result c.loop-b.b c.loop-b.coefficients grid
    (omega (arith, c.loop-b-test.false, c.len-b-end.ensures, ap length c.self.view_is)) c.loop-b.invariant in
    rw (c.as_slice.ensures ∙ whole ∙ ap (column c.args.self.now) c.reduce-point.ensures) at c.from_coeffs.ensures
