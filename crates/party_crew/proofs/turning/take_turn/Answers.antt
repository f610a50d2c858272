use Rattle.std.proofs.Common.{rules, ◌≡◌, ℕ, ◌+◌, ◌-◌, ◌<◌, ◌≤◌, List, refl, sym, ap, ◌∙◌, subst, arith}
use Rattle.roundboard.specs.Cells.{knows}
use Rattle.roundboard.specs.Pens.{events}
use Rattle.pairrings.specs.Ends.{got_from, sent_to, room_to}
use Rattle.talk.specs.Shape.{seats}
use Rattle.talk.specs.Sync.{ways}
use Rattle.talk.specs.Hears.{Fits}
use Rattle.party_crew.specs.Logs.{AllRings}
use Rattle.talk.specs.declared.messages.Heard.{Heard}
use Rattle.turns.specs.Turns.{counted}
use Rattle.party_crew.proofs.Growth.{grew_more, fresh_next}
use Rattle.party_crew.proofs.Heard.{fits_turn}
use Rattle.party_crew.proofs.Turned.{counted_rings, took_turn, all_rings}
use Rattle.party_crew.proofs.turning.take_turn.Goals as goal

pub say_word-requires : goal.say_word-requires
say_word-requires g c = (
  search rules,
  (
    search rules,
    (
      search rules,
      (
        search rules,
        (
          search rules,
          (
            search rules,
            (
              search rules,
              (
                (λ k w h. c.requires.fresh.posts (c.args.round - 1) k w (omega arith) h),
                (
                  (λ k w h. c.requires.fresh.passes (c.args.round - 1) k w (omega arith) h),
                  (
                    counted_rings g.row.S c.args.out c.in_ok-word.word c.counted_word.result c.counted_word.ensures
                        (all_rings c.args.setting.now g.row.S c.args.me c.in_ok-word.word c.requires.seats (c.in_ok-word.ensures.rings c.args.setting.now c.args.me c.requires.made)),
                    c.requires.room,
                  ),
                ),
              ),
            ),
          ),
        ),
      ),
    ),
  ),
)

may_hear_now : (g : _) (c : goal.After-hear-arg-1 g) → g.M.Mind.may_hear c.say.new.self c.args.round
may_hear_now g c = subst (λ (m : g.row.M.Denot). g.M.Mind.may_hear m c.args.round) (sym c.in_ok-word.ensures.after) (g.met.M.Mind.hears_next c.args.mind.now c.args.round c.requires.may)

made_now : (g : _) (c : goal.After-hear-arg-1 g) → g.M.Mind.made_for c.say.new.self c.args.setting.now c.args.me
made_now g c =
    subst (λ (m : g.row.M.Denot). g.M.Mind.made_for m c.args.setting.now c.args.me) (sym c.in_ok-word.ensures.after)
    ((g.met.M.Mind.say_keeps c.args.mind.now c.args.round c.requires.may c.args.setting.now c.args.me).0 c.requires.made)

pub hear-requires-clause-may : goal.hear-requires-clause-may
hear-requires-clause-may g c = may_hear_now g c

pub hear-requires-clause-read : goal.hear-requires-clause-read
hear-requires-clause-read g c =
    let h = c.in_ok-mask.ensures.heard in (
      c.args.setting.now,
      c.args.me,
      made_now g c,
      subst (λ (x : Heard). Fits c.args.setting.now c.args.me c.args.round x) (sym h.1.heard_is) (fits_turn c.args.setting.now g.row.S c.args.me c.args.round h.0 (sym c.requires.seats) h.1.complete),
    )

pub returns-clause-fresh : goal.returns-clause-fresh
returns-clause-fresh g c =
    fresh_next (c.args.round - 1) (events c.args.pen.now) (events c.hear_round.new.pen) c.requires.fresh
    (grew_more (c.args.round - 1) (events c.args.pen.now) (events c.say_word.new.pen) (events c.hear_round.new.pen) c.say_word.ensures.grew c.hear_round.ensures.grew)

pub returns-clause-may : goal.returns-clause-may
returns-clause-may g c = λ lt.
    let after_said = sym c.in_ok-word.ensures.after in
    let may = subst (λ (m : g.row.M.Denot). g.M.Mind.may_hear m c.args.round) after_said (g.met.M.Mind.hears_next c.args.mind.now c.args.round c.requires.may) in
    let made = subst (λ (m : g.row.M.Denot). g.M.Mind.made_for m c.args.setting.now c.args.me) after_said ((g.met.M.Mind.say_keeps c.args.mind.now c.args.round c.requires.may c.args.setting.now c.args.me).0 c.requires.made) in
    subst (λ (m : g.row.M.Denot). g.M.Mind.may_say m (c.args.round + 1)) (sym c.in_ok-hear.ensures.after)
    (g.met.M.Mind.says_next c.say.new.self c.args.round c.in_ok-mask.heard c.args.setting.now c.args.me may made lt)

pub returns-clause-made : goal.returns-clause-made
returns-clause-made g c =
    let after_said = sym c.in_ok-word.ensures.after in
    let may = subst (λ (m : g.row.M.Denot). g.M.Mind.may_hear m c.args.round) after_said (g.met.M.Mind.hears_next c.args.mind.now c.args.round c.requires.may) in
    let made = subst (λ (m : g.row.M.Denot). g.M.Mind.made_for m c.args.setting.now c.args.me) after_said ((g.met.M.Mind.say_keeps c.args.mind.now c.args.round c.requires.may c.args.setting.now c.args.me).0 c.requires.made) in
    subst (λ (m : g.row.M.Denot). g.M.Mind.made_for m c.args.setting.now c.args.me) (sym c.in_ok-hear.ensures.after)
    ((g.met.M.Mind.hear_keeps c.say.new.self c.args.round c.in_ok-mask.heard may c.args.setting.now c.args.me).0 made)

pub returns-clause-turn : goal.returns-clause-turn
returns-clause-turn g c =
    let h = c.in_ok-mask.ensures.heard in (
      h.0,
      took_turn (ways g.M.Mind.word g.M.Mind.after_say g.M.Mind.after_hear) c.args.setting.now g.row.S c.args.me c.args.round c.args.out c.out_after.result c.args.mind.now c.hear.new.self
          (events c.args.pen.now) (events c.say_word.new.pen) (events c.hear_round.new.pen) (knows c.args.pen.now.cells) (knows c.say_word.new.pen.cells) (knows c.hear_round.new.pen.cells)
          (sent_to c.args.end.now) (sent_to c.say_word.new.end) (sent_to c.hear_round.new.end) (got_from c.args.end.now) (got_from c.say_word.new.end) (got_from c.hear_round.new.end)
          c.counted_word.result c.in_ok-mask.mask c.in_ok-mask.heard h.0
          (c.counted_word.ensures ∙ ap (counted c.args.out) c.in_ok-word.ensures.word)
          c.in_ok-say_word.ensures.logged c.in_ok-say_word.ensures.wrote c.say_word.ensures.grew c.say_word.ensures.learns c.say_word.ensures.sent c.say_word.ensures.got
          c.hear_round.ensures.grew c.hear_round.ensures.no_arrivals c.hear_round.ensures.learns (λ k. (c.hear_round.ensures.sent k).0) h.1
          (c.in_ok-hear.ensures.after ∙ ap (λ (m : g.row.M.Denot). g.M.Mind.after_hear m c.args.round c.in_ok-mask.heard) c.in_ok-word.ensures.after)
          c.out_after.ensures,
    )
