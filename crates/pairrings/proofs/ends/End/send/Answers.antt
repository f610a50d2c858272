use Rattle.std.proofs.Common.{◌≡◌, ◌<◌, ◌-◌, ◌+◌, ℕ, ap, sym, ◌∙◌, refl, arith, length, List, ◌++◌, ◌∷◌, []}
use Rattle.rtrb.specs.Ring.{sent}
use Rattle.rtrb.specs.Ends.{SameRing}
use Rattle.pairrings.specs.declared.heads.Head.{Head}
use Rattle.pairrings.proofs.Picks.{pick_here, pick_set, pick_other, set_each, length_more}
use Rattle.pairrings.proofs.ends.End.send.Goals as goal

pub send-requires : goal.send-requires
send-requires g c =
    let heads = c.args.self.now.heads.items in let k = c.args.to - 1 in let inside : k < length heads = omega (arith, c.args.self.now.to_each) in
    let room : Head g.row.M.Denot → ℕ = λ h. h.laid - length (sent h.ring) in
    omega (arith, pick_here room 0 heads k c.index_mut.result.now inside c.index_mut.ensures.value, c.requires.room)

pub returns-clause-sent : goal.returns-clause-sent
returns-clause-sent g c =
    let heads = c.args.self.now.heads.items in let k = c.args.to - 1 in let inside : k < length heads = omega (arith, c.args.self.now.to_each) in
    let items : Head g.row.M.Denot → List g.row.M.Denot = λ h. sent h.ring in
    pick_set items [] heads k c.send.new.self inside
    ∙ (c.send.ensures.sent ∙ ap (λ (l : List g.row.M.Denot). l ++ c.args.item ∷ []) (sym (pick_here items [] heads k c.index_mut.result.now inside c.index_mut.ensures.value)))

pub returns-clause-room : goal.returns-clause-room
returns-clause-room g c =
    let heads = c.args.self.now.heads.items in let k = c.args.to - 1 in let inside : k < length heads = omega (arith, c.args.self.now.to_each) in
    let room : Head g.row.M.Denot → ℕ = λ h. h.laid - length (sent h.ring) in
    let before = pick_here room 0 heads k c.index_mut.result.now inside c.index_mut.ensures.value in
    let now = pick_set room 0 heads k c.send.new.self inside in
    let more : length (sent c.send.new.self.ring) ≡ length (sent c.index_mut.result.now.ring) + 1 = ap length c.send.ensures.sent ∙ length_more (sent c.index_mut.result.now.ring) c.args.item in
    omega (arith, before, now, more, c.send.ensures.laid, c.requires.room)

pub returns-clause-others : goal.returns-clause-others
returns-clause-others g c =
    let heads = c.args.self.now.heads.items in let k = c.args.to - 1 in
    let items : Head g.row.M.Denot → List g.row.M.Denot = λ h. sent h.ring in
    let room : Head g.row.M.Denot → ℕ = λ h. h.laid - length (sent h.ring) in
    record {
      sent = λ j n. pick_other items [] heads k j c.send.new.self n;
      room = λ j n. pick_other room 0 heads k j c.send.new.self n;
      got = λ j. refl;
      known = λ j. refl;
      dry = λ j. refl;
    }

pub returns-clause-rings : goal.returns-clause-rings
returns-clause-rings g c =
    record {
      heads = set_each (λ (p q : Head g.row.M.Denot). SameRing p.ring.end q.ring.end) (λ p. (refl, refl, refl, refl)) c.args.self.now.heads.items (c.args.to - 1) c.index_mut.result.now c.send.new.self
          c.index_mut.ensures.value c.send.ensures.ring.0;
      tails = λ j d. (refl, refl, refl, refl);
    }
