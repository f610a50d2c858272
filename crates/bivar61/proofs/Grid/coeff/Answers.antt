use Rattle.std.proofs.Common.{ap, arith, length}
use Rattle.bivar61.proofs.GridLemmas.{inside_of}
use Rattle.bivar61.proofs.Grid.coeff.Goals as goal

pub at-requires : goal.at-requires
at-requires c =
    let same = ap length c.self.view_is in
    inside_of _ _ _ _ _ c.index.ensures c.self.invariant (omega (arith, same)) (omega (arith, same))
