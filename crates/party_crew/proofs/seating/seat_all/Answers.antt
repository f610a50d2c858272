use Rattle.std.proofs.Common.{rules, ◌≡◌, ℕ, ◌+◌, ◌<◌, List, [], ◌∷◌, ◌++◌, length, Some, sym, ap, ◌∙◌, arith}
use Rattle.roundboard.proofs.ListLemmas.{each_snoc}
use Rattle.party_crew.specs.Parties.{IsPlaced}
use Rattle.party_crew.proofs.Fronts.{taken, first_is}
use Rattle.party_crew.proofs.seating.seat_all.Goals as goal

pub loop-place-preserved : goal.loop-place-preserved
loop-place-preserved g c =
    let k = c.loop-place.place in
    let lt : k < g.row.S = c.loop-place-test.true in
    let made = c.party_at-party.ensures in
    let more : c.push.new.self.items ≡ c.loop-place.parties.items ++ c.party_at-party.result ∷ [] = search rules in
    let boxed : c.in-Ok.boxed.value ≡ c.remove-mind.result = search rules in
    record {
      minds = taken c.args.minds.items c.loop-place.minds.items c.remove-mind.new.self.items k c.remove-mind.ensures.items c.loop-place.invariant.minds;
      pens = taken c.args.pens.items c.loop-place.pens.items c.remove-pen.new.self.items k c.remove-pen.ensures.items c.loop-place.invariant.pens;
      ends = taken c.args.ends.items c.loop-place.ends.items c.remove-end.new.self.items k c.remove-end.ensures.items c.loop-place.invariant.ends;
      count = search rules;
      placed = each_snoc (IsPlaced c.args.board.now c.args.setting.now c.args.minds.items c.args.pens.items c.args.ends.items) c.loop-place.parties.items c.push.new.self.items c.party_at-party.result k more c.loop-place.invariant.count c.loop-place.invariant.placed
          record {
            board = made.on_board;
            setting = made.in_setting;
            me = made.me;
            mind = first_is c.args.minds.items c.loop-place.minds.items k c.remove-mind.result (omega (arith, lt, c.requires.minds)) c.remove-mind.ensures.value c.loop-place.invariant.minds ∙ ap Some (sym boxed) ∙ ap Some (sym made.of_mind);
            pen = first_is c.args.pens.items c.loop-place.pens.items k c.remove-pen.result (omega (arith, lt, c.requires.pens)) c.remove-pen.ensures.value c.loop-place.invariant.pens ∙ ap Some (sym made.of_pen);
            end = first_is c.args.ends.items c.loop-place.ends.items k c.remove-end.result (omega (arith, lt, c.requires.ends)) c.remove-end.ensures.value c.loop-place.invariant.ends ∙ ap Some (sym made.of_end);
          };
    }
