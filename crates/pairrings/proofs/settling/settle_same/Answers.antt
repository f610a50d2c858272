use Rattle.std.proofs.Common.{sym, subst}
use Rattle.pairrings.specs.declared.ends.End.{End}
use Rattle.pairrings.specs.Ends.{SameEnd}
use Rattle.pairrings.proofs.RingLemmas.{one_settled}
use Rattle.pairrings.proofs.settling.settle_same.Goals as goal

pub returns-clause-same : goal.returns-clause-same
returns-clause-same g c =
    one_settled c.args.ends.now c.args.place c.index-ends-place.result c.settle_own.new.end c.index-ends-place.is
    (subst (λ (e : End g.row.M.Denot g.row.S). SameEnd e c.settle_own.new.end) (sym c.index-ends-place.is) c.settle_own.ensures.same)
