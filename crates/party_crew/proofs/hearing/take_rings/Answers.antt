use Rattle.std.proofs.Common.{rules, ◌≡◌, ℕ, ◌+◌, List, [], ◌∷◌, ◌++◌, sym, ◌∙◌, subst, Some}
use Rattle.talk.specs.declared.messages.Ring.{Ring as RingValue}
use Rattle.pairrings.specs.Ends.{got_from}
use Rattle.party_crew.specs.Taken.{RingsTaken}
use Rattle.pairrings.proofs.EndLemmas.{rings_then}
use Rattle.party_crew.proofs.Took.{rings_more}
use Rattle.party_crew.proofs.hearing.take_rings.Goals as goal

pub loop-place-preserved : goal.loop-place-preserved
loop-place-preserved g c =
    let t = c.loop-place.invariant.taken in
    let o = c.take_ring-ring.ensures.taken in
    record {
      same = rings_then c.args.end.now c.loop-place.end c.take_ring-ring.new.end c.loop-place.invariant.same c.take_ring-ring.ensures.same;
      sent = λ k. (c.take_ring-ring.ensures.others.sent k ∙ (c.loop-place.invariant.sent k).0, c.take_ring-ring.ensures.others.room k ∙ (c.loop-place.invariant.sent k).1);
      taken = (
        t.0 ++ o.0 ∷ [],
        subst (λ (rs : List RingValue). RingsTaken c.args.setting.now c.args.round c.args.mask c.args.me (c.loop-place.place + 1) (got_from c.args.end.now) (got_from c.take_ring-ring.new.end) (t.0 ++ o.0 ∷ []) rs)
            (sym c.in_ok-push.ensures)
            (rings_more c.args.setting.now c.args.round c.args.mask c.args.me c.loop-place.place (got_from c.args.end.now) (got_from c.loop-place.end) (got_from c.take_ring-ring.new.end) t.0 c.loop-place.rings o.0 c.take_ring-ring.result t.1 c.take_ring-ring.ensures.others.got o.1),
      );
    }
