use Rattle.std.proofs.Common.{◌≡◌, ◌<◌, ◌∙◌, ℕ, List, ap, sym, subst, arith, length, get_or, set, ◌++◌}
use Rattle.pairrings.specs.declared.ends.End.{End}
use Rattle.pairrings.specs.Ends.{SameEnd}
use Rattle.pairrings.specs.Records.{SameEnds}
use Rattle.pairrings.proofs.RingLemmas.{two_settled}
use Rattle.pairrings.proofs.settling.settle_up.Goals as goal

pub returns-clause-same : goal.returns-clause-same
returns-clause-same g c =
    let ends = c.args.ends.now in let front = c.split_at_mut-left.ensures.front in let back = c.split_at_mut-left.ensures.back in
    subst (λ (z : List (End g.row.M.Denot g.row.S) × List (End g.row.M.Denot g.row.S)). SameEnds ends (set z.0 c.args.from c.settle.new.sender ++ set z.1 0 c.settle.new.receiver))
    (λ i. (sym front i, sym back i))
    (two_settled ends c.args.from c.args.to c.index-left-from.result c.index-right-0.result c.settle.new.sender c.settle.new.receiver
    c.requires.places.0 (omega (arith, c.requires.all, c.requires.places.1))
    (c.index-left-from.is ∙ ap (λ (l : List (End g.row.M.Denot g.row.S)). get_or l c.args.from c.index-left-from.result) front)
    (c.index-right-0.is ∙ ap (λ (l : List (End g.row.M.Denot g.row.S)). get_or l 0 c.index-right-0.result) back)
    (subst (λ (e : End g.row.M.Denot g.row.S). SameEnd e c.settle.new.sender) (sym c.index-left-from.is) c.settle.ensures.sender)
    (subst (λ (e : End g.row.M.Denot g.row.S). SameEnd e c.settle.new.receiver) (sym c.index-right-0.is) c.settle.ensures.receiver))
