use Rattle.std.proofs.Common.{◌≡◌, ◌<◌, ℕ, ap, sym, ◌∙◌, refl, arith, length, List, ◌++◌, []}
use Rattle.rtrb.specs.Ring.{sent, received, known_items}
use Rattle.rtrb.specs.Ends.{SameRing}
use Rattle.pairrings.specs.declared.heads.Head.{Head}
use Rattle.pairrings.specs.declared.tails.Tail.{Tail}
use Rattle.pairrings.proofs.Picks.{pick_here, pick_same, set_each}
use Rattle.pairrings.proofs.settling.settle_own.Goals as goal

pub returns-clause-same : goal.returns-clause-same
returns-clause-same g c =
    let heads = c.args.end.now.heads.items in let tails = c.args.end.now.tails.items in
    let items : Head g.row.M.Denot → List g.row.M.Denot = λ h. sent h.ring in
    let got : Tail g.row.M.Denot → List g.row.M.Denot = λ t. received t.ring in
    record {
      sent = λ j. pick_same items [] heads c.args.place j c.index_mut-head.result.now c.settle.new.head c.index_mut-head.ensures.value c.settle.ensures.sent;
      got = λ j. pick_same got [] tails c.args.place j c.index_mut-tail.result.now c.settle.new.self c.index_mut-tail.ensures.value c.settle.ensures.got;
      rings = record {
        heads = set_each (λ (p q : Head g.row.M.Denot). SameRing p.ring.end q.ring.end) (λ p. (refl, refl, refl, refl)) heads c.args.place c.index_mut-head.result.now c.settle.new.head
            c.index_mut-head.ensures.value c.settle.ensures.head_ring.0;
        tails = set_each (λ (p q : Tail g.row.M.Denot). SameRing p.ring.end q.ring.end) (λ p. (refl, refl, refl, refl)) tails c.args.place c.index_mut-tail.result.now c.settle.new.self
            c.index_mut-tail.ensures.value c.settle.ensures.ring.0;
      };
    }
