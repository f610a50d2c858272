use Rattle.std.proofs.Common.{◌≡◌, ◌+◌, ◌-◌, ◌<◌, suc, ap, sym, ◌∙◌, arith, length, drop}
use Rattle.algebra61.specs.Field.{◌+ₚ◌, zeroₚ}
use Rattle.lists.proofs.Places.{at_or}
use Rattle.algebra61.specs.Poly.{coeff}
use Rattle.algebra61.specs.Grid.{column}
use Rattle.bivar61.proofs.GridLemmas.{inside_of, column_step}
use Rattle.bivar61.proofs.Grid.column_coeff.Goals as goal

pub at-requires : goal.at-requires
at-requires c =
    let same = ap length c.self.view_is in
    inside_of _ _ _ _ _ c.index.ensures c.self.invariant (omega (arith, same, c.loop-a.invariant.0)) (omega (arith, same, c.loop-a.invariant.0))

pub loop-a-preserved : goal.loop-a-preserved
loop-a-preserved c =
    let rows = c.self.inside.rows.items in
    let next : suc (c.loop-a.a - 1) ≡ c.loop-a.a = omega arith in (
      omega (arith, c.loop-a.invariant.0),
      c.add-value.ensures ∙ ap (λ v. c.at.result.now +ₚ v) c.mul.ensures
          ∙ column_step rows (c.loop-a.a - 1) c.args.b c.args.x c.at.result.now c.loop-a.value c.index.result.now (omega (arith, c.loop-a.invariant.0)) c.index.ensures (at_or c.index.result.now c.args.b zeroₚ c.at.result.now c.at.ensures)
          (c.loop-a.invariant.1 ∙ ap (λ k. coeff (column (drop k rows) c.args.x) c.args.b) (sym next)),
    )
