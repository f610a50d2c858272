use Rattle.std.proofs.Common.{sym, ap, ◌∙◌, arith}
use Rattle.std.proofs.lemmas.List.{drop_all}
use Rattle.talk.specs.declared.messages.Reveal.{Reveal}
use Rattle.talk.specs.Read.{reveal_in}
use Rattle.talk.proofs.Ascending.{ascends_from, reveals_are, goes_on, ends}
use Rattle.talk.proofs.shapes.reveals_fit.Goals as goal

pub loop-reveal-init : goal.loop-reveal-init
loop-reveal-init c = reveals_are c.args.setting.now c.args.list.now

pub returns-then-not-reveal_next : goal.returns-then-not-reveal_next
returns-then-not-reveal_next c =
    ends (λ (x : Reveal). x.lane) (λ (x : Reveal). x.receiver) (reveal_in c.args.setting.now) c.loop-reveal.lane c.loop-reveal.receiver c.loop-reveal.reveal-index c.args.list.now c.reveal-item.result _
    c.loop-reveal.invariant (omega arith) c.reveal-item.is (sym c.reveal_next.ensures ∙ c.if-not-reveal_next.true)

pub loop-reveal-preserved : goal.loop-reveal-preserved
loop-reveal-preserved c =
    goes_on (λ (x : Reveal). x.lane) (λ (x : Reveal). x.receiver) (reveal_in c.args.setting.now) c.loop-reveal.lane c.loop-reveal.receiver c.loop-reveal.reveal-index c.args.list.now c.reveal-item.result _
    c.loop-reveal.invariant (omega arith) c.reveal-item.is (sym c.reveal_next.ensures ∙ c.if-not-reveal_next.false)

pub returns : goal.returns
returns c =
    sym
    (c.loop-reveal.invariant
    ∙ ap (ascends_from (λ (x : Reveal). x.lane) (λ (x : Reveal). x.receiver) (reveal_in c.args.setting.now) c.loop-reveal.lane c.loop-reveal.receiver)
    (drop_all c.loop-reveal.reveal-index c.args.list.now (omega arith)))
