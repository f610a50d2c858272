use Rattle.std.proofs.Common.{◌≡◌, ◌++◌, drop}
use Rattle.bivar61.proofs.GridLemmas.{product_added}
use Rattle.bivar61.proofs.Grid.add_product.Given as goal

abbrev pub invariant-loop-a : goal.invariant-loop-a
invariant-loop-a l = l.rows.items ++ product_added l.a (drop l.a l.self-inside.rows.items) l.u.coeffs l.v.coeffs ≡ product_added 0 l.self-inside.rows.items l.u.coeffs l.v.coeffs
