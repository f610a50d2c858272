use Rattle.pairrings.specs.Ends.{SameRings}
use Rattle.pairrings.proofs.Picks.{set_each}
use Rattle.pairrings.proofs.EndLemmas.{rings_same}
use Rattle.pairrings.proofs.RingLemmas.{rings_stay}
use Rattle.musters.proofs.rings.send.Goals as goal

pub returns-clause-rings : goal.returns-clause-rings
returns-clause-rings g c =
    rings_stay c.args.ends.now.items _ c.requires.rings
    (set_each SameRings rings_same c.args.ends.now.items 0 c.index_mut-end.result.now c.send.new.self c.index_mut-end.ensures.value c.send.ensures.rings)
