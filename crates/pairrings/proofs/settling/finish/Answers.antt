use Rattle.std.proofs.Common.{◌≡◌, ◌<◌, ℕ, List, ap, sym, ◌∙◌, subst, arith, length, below_more}
use Rattle.pairrings.specs.declared.ends.End.{End}
use Rattle.pairrings.specs.Records.{SameEnds, IsInOrder}
use Rattle.pairrings.proofs.Picks.{written_back}
use Rattle.pairrings.proofs.RingLemmas.{ends_then, order_same}
use Rattle.pairrings.proofs.settling.finish.Goals as goal

pub loop-from-preserved : goal.loop-from-preserved
loop-from-preserved g c =
    let first = c.args.ends.items in let now = c.loop-from.ends.items in let new = c.settle_sender.new.ends in
    let value = c.as_mut_slice.ensures.value in
    let same = subst (λ (es : List (End g.row.M.Denot g.row.S)). SameEnds es new) value c.settle_sender.ensures.same in
    let back = written_back c.loop-from.ends.len new now c.loop-from.ends.ok.0 same.count in (
      subst (λ (es : List (End g.row.M.Denot g.row.S)). SameEnds first es) (sym back) (ends_then _ _ _ c.loop-from.invariant.0 same),
      λ i j li lj. below_more (λ k. IsInOrder first k j) c.loop-from.from (λ k l. c.loop-from.invariant.1 k j l lj)
          (order_same first now c.loop-from.from j c.loop-from.invariant.0 (subst (λ (es : List (End g.row.M.Denot g.row.S)). IsInOrder es c.loop-from.from j) value (c.settle_sender.ensures.order j lj))) i li,
    )
