use Rattle.std.proofs.Common.{◌≡◌, ap, sym, ◌∙◌, arith, length, subst}
use Rattle.algebra61.specs.Grid.{grid_at}
use Rattle.bivar61.specs.Grids.{IsGrid, coefficient}
use Rattle.bivar61.proofs.GridLemmas.{product_added, product_whole, product_grid, product_coeffs, product_values}
use Rattle.bivar61.proofs.Grid.add_product.Goals as goal

whole : (c : goal.After-loop-a) → c.loop-a.rows.items ≡ product_added 0 c.args.self.now c.args.u.now.coeffs c.args.v.now.coeffs
whole c =
    product_whole c.loop-a.a c.self.inside.rows.items c.loop-a.rows.items c.args.u.now.coeffs c.args.v.now.coeffs
    (omega (arith, c.loop-a-test.false, c.len-a-end.ensures)) c.loop-a.invariant
    ∙ ap (λ g. product_added 0 g c.args.u.now.coeffs c.args.v.now.coeffs) c.self.view_is

grid : (c : goal.After-loop-a) → IsGrid c.self.inside.degree c.args.self.now
grid c = subst (IsGrid c.self.inside.degree) c.self.view_is c.self.invariant

pub invariant_of-result : goal.invariant_of-result
invariant_of-result c = subst (IsGrid c.self.inside.degree) (sym (whole c)) (product_grid c.self.inside.degree c.args.self.now _ _ (grid c))

pub returns-clause-shape : goal.returns-clause-shape
returns-clause-shape c d h = subst (IsGrid d) (sym (whole c)) (product_grid d c.args.self.now _ _ h)

pub returns-clause-coefficients : goal.returns-clause-coefficients
returns-clause-coefficients c a b la lb =
    ap (λ g. coefficient g a b) (whole c) ∙ product_coeffs c.self.inside.degree c.args.self.now c.args.u.now.coeffs c.args.v.now.coeffs a b (grid c) la lb

pub returns-clause-values : goal.returns-clause-values
returns-clause-values c x y =
    ap (λ g. grid_at g x y) (whole c) ∙ product_values c.self.inside.degree c.args.self.now c.args.u.now.coeffs c.args.v.now.coeffs x y (grid c) c.requires.in_x c.requires.in_y
