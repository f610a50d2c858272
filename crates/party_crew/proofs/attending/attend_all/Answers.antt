use Rattle.std.proofs.Common.{rules, ◌≡◌, ◌≢◌, ℕ, ◌+◌, ◌-◌, ◌<◌, ◌≤◌, List, [], ◌∷◌, length, refl, sym, ap, ◌∙◌, subst, arith}
use Rattle.party_crew.specs.Logs.{Fresh}
use Rattle.roundboard.specs.Cells.{knows}
use Rattle.roundboard.specs.Pens.{events}
use Rattle.pairrings.specs.Ends.{got_from, sent_to, room_to}
use Rattle.talk.specs.Sync.{ways}
use Rattle.pairrings.proofs.EndLemmas.{rings_same, rings_then}
use Rattle.party_crew.proofs.Growth.{fresh_none}
use Rattle.party_crew.proofs.Turned.{account_none, account_more}
use Rattle.party_crew.proofs.attending.attend_all.Goals as goal

pub loop-row-init : goal.loop-row-init
loop-row-init g c = record {
  pen = c.requires.pen;
  place = refl;
  same = rings_same c.args.end.now;
  fresh = fresh_none (events c.args.pen.now) c.requires.quiet;
  made = c.requires.made;
  may = λ _. c.requires.may;
  room = λ k lt. let r = c.requires.room k lt in omega (arith, r);
  told = (
    [],
    refl,
    refl,
    account_none (ways g.M.Mind.word g.M.Mind.after_say g.M.Mind.after_hear) c.args.setting.now g.row.S c.args.me c.args.mind.now (events c.args.pen.now) (knows c.args.pen.now.cells) (sent_to c.args.end.now) (got_from c.args.end.now) c.requires.sent c.requires.got,
  );
}

pub take_turn-requires : goal.take_turn-requires
take_turn-requires g c =
    let lt : c.loop-row.row < Rattle.talk.specs.Shape.rounds c.args.setting.now = omega (arith, c.loop-row-test.true, c.rounds-row-end.ensures) in
    let back : c.loop-row.row ≡ c.loop-row.row + 1 - 1 = omega arith in (
      search rules,
      (
        search rules,
        (
          search rules,
          (
            search rules,
            (
              omega (arith, lt, c.requires.rounds),
              (
                search rules,
                (
                  search rules,
                  (
                    search rules,
                    (
                      c.loop-row.invariant.may lt,
                      (
                        c.loop-row.invariant.made,
                        (
                          subst (λ (r : ℕ). Fresh r (events c.loop-row.pen)) back c.loop-row.invariant.fresh,
                          (λ k h. let r = c.loop-row.invariant.room k h in omega (arith, r, lt)),
                        ),
                      ),
                    ),
                  ),
                ),
              ),
            ),
          ),
        ),
      ),
    )

pub loop-row-preserved : goal.loop-row-preserved
loop-row-preserved g c =
    let back : c.loop-row.row + 1 - 1 + 1 ≡ c.loop-row.row + 1 = omega arith in
    let told = c.loop-row.invariant.told in
    let turn = c.in_ok-out.ensures.turn in
    let more = account_more (ways g.M.Mind.word g.M.Mind.after_say g.M.Mind.after_hear) c.args.setting.now g.row.S c.args.me (c.loop-row.row + 1) c.args.mind.now c.loop-row.mind c.take_turn.new.mind c.loop-row.out c.in_ok-out.out
    (events c.loop-row.pen) (events c.take_turn.new.pen) (knows c.loop-row.pen.cells) (knows c.take_turn.new.pen.cells) (sent_to c.loop-row.end) (sent_to c.take_turn.new.end) (got_from c.loop-row.end) (got_from c.take_turn.new.end)
    told.0 turn.0 c.requires.me.0 (ap (λ x. x + 1) (sym told.1)) told.2 told.3 turn.1 in
    record {
      pen = c.take_turn.ensures.pen;
      place = c.take_turn.ensures.place ∙ c.loop-row.invariant.place;
      same = rings_then c.args.end.now c.loop-row.end c.take_turn.new.end c.loop-row.invariant.same c.take_turn.ensures.same;
      fresh = subst (λ (r : ℕ). Fresh r (events c.take_turn.new.pen)) back c.in_ok-out.ensures.fresh;
      made = c.in_ok-out.ensures.made;
      may = c.in_ok-out.ensures.may;
      room = λ k h. let r = c.loop-row.invariant.room k h in let q = c.take_turn.ensures.room k h in omega (arith, r, q);
      told = (turn.0 ∷ told.0, (let len = told.1 in omega (arith, len)), more.1, more.0);
    }
