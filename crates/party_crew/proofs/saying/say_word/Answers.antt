use Rattle.std.proofs.Common.{rules, ◌≡◌, ℕ, ◌+◌, ◌-◌, ◌^◌, sym, subst, bit_or}
use Rattle.std.proofs.Common.{◌∙◌, Result, Ok, Err}
use Rattle.std.specs.Prelude.{OnOk}
use Rattle.party_crew.specs.Logs.{PostedAt, InTimeAt, NoPassIn}
use Rattle.roundboard.specs.declared.view.Deed.TheVariants.{Passed as Passing}
use Rattle.roundboard.specs.Pens.{events}
use Rattle.roundboard.specs.Rule.{In, event}
use Rattle.talk.specs.declared.messages.Say.{Say}
use Rattle.turns.specs.Account.{WordLogged}
use Rattle.party_crew.proofs.Growth.{arrival_here, pass_no_posts, grew_more}
use Rattle.roundboard.proofs.Logs.{arrival_grew}
use Rattle.party_crew.proofs.saying.say_word.Goals as goal

pub post_value-requires-in-PassThenSpeak : goal.post_value-requires-in-PassThenSpeak
post_value-requires-in-PassThenSpeak g c =
    let w = c.pass-passed-in-PassThenSpeak.result.word in let p = c.args.pen.now.log.place in (
      search rules,
      (
        search rules,
        (
          search rules,
          (
            search rules,
            λ k v h.
                c.requires.posts k v (pass_no_posts g.row.S (c.args.round - 1) p w (bit_or w (2 ^ (30 + p))) (events c.args.pen.now) (events c.pass-passed-in-PassThenSpeak.new.pen) c.pass-passed-in-PassThenSpeak.ensures.told (c.args.round - 1) k v h),
          ),
        ),
      ),
    )

pub returns-in-Pass-clause-grew : goal.returns-in-Pass-clause-grew
returns-in-Pass-clause-grew g c =
    let w = c.pass-passed.result.word in let p = c.args.pen.now.log.place in
    arrival_grew g.row.S (c.args.round - 1) (Passing p w) w (bit_or w (2 ^ (30 + p))) (events c.args.pen.now) (events c.pass-passed.new.pen) c.pass-passed.ensures.told

pub returns-in-Pass-clause-logged : goal.returns-in-Pass-clause-logged
returns-in-Pass-clause-logged g c =
    let w = c.pass-passed.result.word in let p = c.args.pen.now.log.place in
    subst (λ (d : Say). WordLogged (events c.pass-passed.new.pen) (c.args.round - 1) (c.args.me - 1) d) (sym c.in-Pass.is) (
      (
        w,
        subst (λ (k : ℕ). In (event (c.args.round - 1) (Passing k w)) (events c.pass-passed.new.pen)) c.requires.place
            (arrival_here g.row.S (c.args.round - 1) (Passing p w) w (bit_or w (2 ^ (30 + p))) (events c.args.pen.now) (events c.pass-passed.new.pen) c.pass-passed.ensures.told),
      ),
      λ v h. c.requires.posts (c.args.me - 1) v (pass_no_posts g.row.S (c.args.round - 1) p w (bit_or w (2 ^ (30 + p))) (events c.args.pen.now) (events c.pass-passed.new.pen) c.pass-passed.ensures.told (c.args.round - 1) (c.args.me - 1) v h),
    )

pub returns-in-PassThenSpeak-clause-grew : goal.returns-in-PassThenSpeak-clause-grew
returns-in-PassThenSpeak-clause-grew g c =
    let w = c.pass-passed-in-PassThenSpeak.result.word in let p = c.args.pen.now.log.place in
    grew_more (c.args.round - 1) (events c.args.pen.now) (events c.pass-passed-in-PassThenSpeak.new.pen) (events c.post_value-in-PassThenSpeak.new.pen)
    (arrival_grew g.row.S (c.args.round - 1) (Passing p w) w (bit_or w (2 ^ (30 + p))) (events c.args.pen.now) (events c.pass-passed-in-PassThenSpeak.new.pen) c.pass-passed-in-PassThenSpeak.ensures.told)
    c.post_value-in-PassThenSpeak.ensures.grew

on_ok : {A E : Type 0} (r : Result A E) {P Q : Type 0} → (P → Q) → OnOk r P → OnOk r Q
on_ok (Ok a) f h = f h
on_ok (Err e) f h = tt

pub returns-in-PassThenSpeak-clause-logged : goal.returns-in-PassThenSpeak-clause-logged
returns-in-PassThenSpeak-clause-logged g c =
    let w = c.pass-passed-in-PassThenSpeak.result.word in let p = c.args.pen.now.log.place in
    let new = events c.post_value-in-PassThenSpeak.new.pen in
    on_ok c.post_value-in-PassThenSpeak.result
    (λ (h : PostedAt (c.args.round - 1) c.pass-passed-in-PassThenSpeak.new.pen.log.place new).
    subst (λ (d : Say). WordLogged new (c.args.round - 1) (c.args.me - 1) d) (sym c.in-PassThenSpeak.is) (
      (
        w,
        c.post_value-in-PassThenSpeak.ensures.grew.keep (event (c.args.round - 1) (Passing (c.args.me - 1) w))
            (subst (λ (k : ℕ). In (event (c.args.round - 1) (Passing k w)) (events c.pass-passed-in-PassThenSpeak.new.pen)) c.requires.place
            (arrival_here g.row.S (c.args.round - 1) (Passing p w) w (bit_or w (2 ^ (30 + p))) (events c.args.pen.now) (events c.pass-passed-in-PassThenSpeak.new.pen) c.pass-passed-in-PassThenSpeak.ensures.told)),
      ),
      subst (λ (k : ℕ). PostedAt (c.args.round - 1) k new) (c.pass-passed-in-PassThenSpeak.ensures.place ∙ c.requires.place) h,
    ))
    c.post_value-in-PassThenSpeak.ensures.posted

pub returns-in-Speak-clause-logged : goal.returns-in-Speak-clause-logged
returns-in-Speak-clause-logged g c =
    let new = events c.post_value.new.pen in
    on_ok c.post_value.result
    (λ (h : NoPassIn (c.args.round - 1) (events c.args.pen.now) → InTimeAt (c.args.round - 1) c.args.pen.now.log.place new).
    subst (λ (d : Say). WordLogged new (c.args.round - 1) (c.args.me - 1) d) (sym c.in-Speak.is)
    (subst (λ (k : ℕ). InTimeAt (c.args.round - 1) k new) c.requires.place (h c.requires.passes)))
    c.post_value.ensures.in_time
