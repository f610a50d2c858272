use Rattle.std.proofs.Common.{ℕ, ◌^◌, ◌<◌, [], ◌∷◌, length, sym, ap, ◌∙◌, subst, arith}
use Rattle.std.proofs.lemmas.List.{length-append}
use Rattle.talk.specs.Shape.{seats}
use Rattle.talk.specs.Sync.{ways, nobody, all_seats, last_mask}
use Rattle.talk.proofs.Sync.{length-after_hears, length-after_words}
use Rattle.driver.proofs.NextRound.{may_heard, made_heard, round_is, now_is, may_next, made_next, words_count}
use Rattle.driver.proofs.Spoken.{last-append, spoken_is, all_allowed}
use Rattle.driver.proofs.run.drive.Goals as goal

pub hear_all-requires-clause-few : goal.hear_all-requires-clause-few
hear_all-requires-clause-few g c =
    let w = ways g.M.Mind.word g.M.Mind.after_say g.M.Mind.after_hear in
    omega (arith, ap length c.in_ok-words.ensures.minds, length-after_words w c.loop-round.round c.loop-round.minds.items, c.loop-round.invariant.all, c.all_in-before.ensures.few)

pub hear_all-requires-clause-may : goal.hear_all-requires-clause-may
hear_all-requires-clause-may g c =
    let m = g.M.Mind in
    may_heard (ways m.word m.after_say m.after_hear) m.may_say m.may_hear g.met.M.Mind.hears_next c.loop-round.round c.loop-round.minds.items c.say_all.new.minds.items c.in_ok-words.ensures.minds (c.loop-round.invariant.may (omega arith))

pub hear_all-requires-clause-made : goal.hear_all-requires-clause-made
hear_all-requires-clause-made g c =
    let m = g.M.Mind in
    made_heard (ways m.word m.after_say m.after_hear) m.may_say m.made_for g.met.M.Mind.say_keeps c.args.setting.now c.loop-round.round c.loop-round.minds.items c.say_all.new.minds.items c.in_ok-words.ensures.minds (c.loop-round.invariant.may (omega arith)) c.loop-round.invariant.made

pub spoken_mask-mask-requires : goal.spoken_mask-mask-requires
spoken_mask-mask-requires g c =
    omega (
      arith,
      c.all_in-before.ensures.few,
      words_count (ways g.M.Mind.word g.M.Mind.after_say g.M.Mind.after_hear) c.loop-round.round (seats c.args.setting.now) c.loop-round.minds.items c.in_ok-words.words.items c.deref.result.now c.in_ok-words.ensures.words c.deref.ensures.value c.loop-round.invariant.all,
    )

pub returns-clause-allowed : goal.returns-clause-allowed
returns-clause-allowed g c =
    all_allowed (ways g.M.Mind.word g.M.Mind.after_say g.M.Mind.after_hear) c.args.setting.now 1 (all_seats c.args.setting.now) nobody c.loop-round.masks c.args.minds.items c.loop-round.invariant.spoken

pub loop-round-preserved : goal.loop-round-preserved
loop-round-preserved g c =
    let m = g.M.Mind in
    let w = ways m.word m.after_say m.after_hear in
    let i = c.loop-round.invariant in
    let b0 = all_seats c.args.setting.now in
    let small : c.spoken_mask-mask.result < 2 ^ seats c.args.setting.now =
    subst (λ (n : ℕ). c.spoken_mask-mask.result < 2 ^ n) (words_count (ways g.M.Mind.word g.M.Mind.after_say g.M.Mind.after_hear) c.loop-round.round (seats c.args.setting.now) c.loop-round.minds.items c.in_ok-words.words.items c.deref.result.now c.in_ok-words.ensures.words c.deref.ensures.value c.loop-round.invariant.all) c.spoken_mask-mask.ensures.mask in
    let h = may_heard w m.may_say m.may_hear g.met.M.Mind.hears_next c.loop-round.round c.loop-round.minds.items c.say_all.new.minds.items c.in_ok-words.ensures.minds (i.may (omega arith)) in
    let t = made_heard w m.may_say m.made_for g.met.M.Mind.say_keeps c.args.setting.now c.loop-round.round c.loop-round.minds.items c.say_all.new.minds.items c.in_ok-words.ensures.minds (i.may (omega arith)) i.made in
    record {
      all = ap length c.in_ok-hear_all.ensures
          ∙ length-after_hears w c.args.setting.now c.loop-round.round c.spoken_mask-mask.result c.deref-in-loop-round.result.now 1 c.say_all.new.minds.items
          ∙ ap length c.in_ok-words.ensures.minds
          ∙ length-after_words w c.loop-round.round c.loop-round.minds.items
          ∙ i.all;
      count = omega (arith, ap length c.in_ok-push.ensures, length-append c.loop-round.masks (c.spoken_mask-mask.result ∷ []), i.count);
      now = now_is w c.args.setting.now c.loop-round.round c.spoken_mask-mask.result c.loop-round.masks c.push.new.self c.args.minds.items c.loop-round.minds.items c.hear_all.new.minds.items
          (round_is w c.args.setting.now c.loop-round.round c.spoken_mask-mask.result c.loop-round.minds.items c.say_all.new.minds.items c.hear_all.new.minds.items c.in_ok-words.words.items c.deref-in-loop-round.result.now c.in_ok-words.ensures.minds c.in_ok-words.ensures.words c.deref-in-loop-round.ensures.value c.in_ok-hear_all.ensures)
          i.now i.count c.in_ok-push.ensures;
      spoken = spoken_is w c.args.setting.now c.loop-round.round c.spoken_mask-mask.result b0 c.loop-round.before c.loop-round.masks c.push.new.self c.args.minds.items c.loop-round.minds.items c.in_ok-words.words.items c.deref.result.now i.spoken i.now i.count c.in_ok-push.ensures i.last c.in_ok-words.ensures.words c.deref.ensures.value small c.spoken_mask-mask.ensures.spoken;
      last = sym (ap (last_mask b0) c.in_ok-push.ensures ∙ last-append b0 c.loop-round.masks c.spoken_mask-mask.result);
      may = λ lt. may_next w m.may_say m.may_hear m.made_for g.met.M.Mind.says_next c.args.setting.now c.loop-round.round c.spoken_mask-mask.result c.deref-in-loop-round.result.now c.say_all.new.minds.items c.hear_all.new.minds.items c.in_ok-hear_all.ensures (omega arith) h t;
      made = made_next w m.may_hear m.made_for g.met.M.Mind.hear_keeps c.args.setting.now c.loop-round.round c.spoken_mask-mask.result c.deref-in-loop-round.result.now c.say_all.new.minds.items c.hear_all.new.minds.items c.in_ok-hear_all.ensures h t;
    }
