use Rattle.std.proofs.Common.{ℕ, ◌≤◌, List, [], length, take, ◌+◌, ◌-◌, ◌++◌, ap, ◌∙◌, arith}
use Rattle.std.specs.List.{flat_map}
use Rattle.talk.specs.Shape.{seats}
use Rattle.talk.specs.Sync.{ways}
use Rattle.talk.proofs.Sync.{length-after_hears, length-after_words}
use Rattle.driver.proofs.NextRound.{may_heard, made_heard, round_is, now_is, may_next, made_next, words_count}
use Rattle.plays.specs.Said.{points_up_to}
use Rattle.plays.proofs.Lists.{points_step}
use Rattle.playback.specs.declared.phase.SaidItem.{SaidItem}
use Rattle.hearsay.proofs.Heard.{heard_round, round_heard, said_by, more_masks, length_masks}
use Rattle.hearsay.proofs.said.said_of.Goals as goal

pub push_round-requires : goal.push_round-requires
push_round-requires g c =
    words_count (ways g.M.Mind.word g.M.Mind.after_say g.M.Mind.after_hear) c.loop-round.round (seats c.args.setting.now) c.loop-round.minds.items c.in_ok-words.words.items c.as_slice.result.now
    c.in_ok-words.ensures.words c.as_slice.ensures.value c.loop-round.invariant.all

pub hear_all-requires-clause-few : goal.hear_all-requires-clause-few
hear_all-requires-clause-few g c =
    let w = ways g.M.Mind.word g.M.Mind.after_say g.M.Mind.after_hear in
    omega (arith, ap length c.in_ok-words.ensures.minds, length-after_words w c.loop-round.round c.loop-round.minds.items, c.loop-round.invariant.all, c.seats-seats.ensures.is, c.seats-seats.ensures.most)

pub hear_all-requires-clause-all : goal.hear_all-requires-clause-all
hear_all-requires-clause-all g c =
    words_count (ways g.M.Mind.word g.M.Mind.after_say g.M.Mind.after_hear) c.loop-round.round (seats c.args.setting.now) c.loop-round.minds.items c.in_ok-words.words.items c.as_slice-in-loop-round.result.now
    c.in_ok-words.ensures.words c.as_slice-in-loop-round.ensures.value c.loop-round.invariant.all

pub hear_all-requires-clause-may : goal.hear_all-requires-clause-may
hear_all-requires-clause-may g c =
    let m = g.M.Mind in
    may_heard (ways m.word m.after_say m.after_hear) m.may_say m.may_hear g.met.M.Mind.hears_next c.loop-round.round c.loop-round.minds.items c.say_all.new.minds.items c.in_ok-words.ensures.minds (c.loop-round.invariant.may (omega arith))

pub hear_all-requires-clause-made : goal.hear_all-requires-clause-made
hear_all-requires-clause-made g c =
    let m = g.M.Mind in
    made_heard (ways m.word m.after_say m.after_hear) m.may_say m.made_for g.met.M.Mind.say_keeps c.args.setting.now c.loop-round.round c.loop-round.minds.items c.say_all.new.minds.items c.in_ok-words.ensures.minds (c.loop-round.invariant.may (omega arith)) c.loop-round.invariant.made

pub loop-round-preserved : goal.loop-round-preserved
loop-round-preserved g c =
    let m = g.M.Mind in
    let w = ways m.word m.after_say m.after_hear in
    let i = c.loop-round.invariant in
    let s = c.args.setting.now in
    let round : ℕ = c.loop-round.round in
    let masks : List ℕ = c.args.masks.now in
    let mask : ℕ = c.at-mask.result.now in
    let words = c.as_slice-in-loop-round.result.now in
    let from : 1 ≤ round = omega arith in
    let most : round ≤ length masks = omega (arith, c.loop-round-test.true, c.rounds-round-end.ensures.is, c.requires.rounds) in
    let h = may_heard w m.may_say m.may_hear g.met.M.Mind.hears_next round c.loop-round.minds.items c.say_all.new.minds.items c.in_ok-words.ensures.minds (i.may (omega arith)) in
    let t = made_heard w m.may_say m.made_for g.met.M.Mind.say_keeps s round c.loop-round.minds.items c.say_all.new.minds.items c.in_ok-words.ensures.minds (i.may (omega arith)) i.made in
    record {
      all = ap length c.in_ok-hear_all.ensures
          ∙ length-after_hears w s round mask words 1 c.say_all.new.minds.items
          ∙ ap length c.in_ok-words.ensures.minds
          ∙ length-after_words w round c.loop-round.minds.items
          ∙ i.all;
      now = now_is w s round mask (take (round - 1) masks) (take (round + 1 - 1) masks) c.args.minds.items c.loop-round.minds.items c.hear_all.new.minds.items
          (round_is w s round mask c.loop-round.minds.items c.say_all.new.minds.items c.hear_all.new.minds.items c.in_ok-words.words.items words c.in_ok-words.ensures.minds c.in_ok-words.ensures.words c.as_slice-in-loop-round.ensures.value c.in_ok-hear_all.ensures)
          i.now (length_masks masks round from most) (more_masks masks round mask from most c.at-mask.ensures);
      heard = points_step (heard_round w s masks c.args.minds.items c.args.down) round [] c.loop-round.said c.push_round.new.said from i.heard
          (c.in_ok-push_round.ensures
          ∙ ap (λ (items : List SaidItem). c.loop-round.said ++ items)
          (round_heard w s masks c.args.minds.items c.loop-round.minds.items c.args.down round mask c.as_slice.result.now c.at-mask.ensures i.now (c.as_slice.ensures.value ∙ c.in_ok-words.ensures.words)));
      may = λ le. may_next w m.may_say m.may_hear m.made_for g.met.M.Mind.says_next s round mask words c.say_all.new.minds.items c.hear_all.new.minds.items c.in_ok-hear_all.ensures (omega (arith, le)) h t;
      made = made_next w m.may_hear m.made_for g.met.M.Mind.hear_keeps s round mask words c.say_all.new.minds.items c.hear_all.new.minds.items c.in_ok-hear_all.ensures h t;
    }

pub returns : goal.returns
returns g c = λ faulty own marks.
    let m = g.M.Mind in
    let w = ways m.word m.after_say m.after_hear in
    c.loop-round.invariant.heard
    ∙ ap (λ (n : ℕ). flat_map (heard_round w c.args.setting.now c.args.masks.now c.args.minds.items c.args.down) (points_up_to n))
    (omega (arith, c.loop-round-test.false, c.loop-round.auto.round-end, c.rounds-round-end.ensures.is))
    ∙ said_by w c.args.setting.now c.args.masks.now c.args.minds.items c.args.down faulty own marks
