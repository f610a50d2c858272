use Rattle.std.proofs.Common.{◌≡◌, ap, sym, ◌∙◌, arith, drop}
use Rattle.algebra61.specs.Grid.{grid_at}
use Rattle.bivar61.proofs.SumLemmas.{value_is}
use Rattle.bivar61.proofs.Grid.at.Goals as goal

pub returns-clause-sum : goal.returns-clause-sum
returns-clause-sum c =
    let e : c.loop-power.power ≡ 0 = omega (arith, c.loop-power-test.false) in
    c.loop-power.invariant.1 ∙ rw e (ap (λ g. grid_at g c.args.x c.args.y) c.self.view_is) ∙ value_is c.args.self.now c.args.x c.args.y
