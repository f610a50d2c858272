use Rattle.std.proofs.Common.{sym, ap, ◌∙◌, arith}
use Rattle.std.proofs.lemmas.List.{drop_all}
use Rattle.talk.specs.declared.messages.Complaint.{Complaint}
use Rattle.talk.specs.Read.{complaint_in}
use Rattle.talk.proofs.Ascending.{ascends_from, complaints_are, goes_on, ends}
use Rattle.talk.proofs.shapes.complaints_fit.Goals as goal

pub loop-complaint-init : goal.loop-complaint-init
loop-complaint-init c = complaints_are c.args.setting.now c.args.list.now

pub returns-then-not-complaint_next : goal.returns-then-not-complaint_next
returns-then-not-complaint_next c =
    ends (λ (x : Complaint). x.instance) (λ (x : Complaint). x.against) (complaint_in c.args.setting.now) c.loop-complaint.instance c.loop-complaint.against c.loop-complaint.complaint-index c.args.list.now c.complaint-item.result _
    c.loop-complaint.invariant (omega arith) c.complaint-item.is (sym c.complaint_next.ensures ∙ c.if-not-complaint_next.true)

pub loop-complaint-preserved : goal.loop-complaint-preserved
loop-complaint-preserved c =
    goes_on (λ (x : Complaint). x.instance) (λ (x : Complaint). x.against) (complaint_in c.args.setting.now) c.loop-complaint.instance c.loop-complaint.against c.loop-complaint.complaint-index c.args.list.now c.complaint-item.result _
    c.loop-complaint.invariant (omega arith) c.complaint-item.is (sym c.complaint_next.ensures ∙ c.if-not-complaint_next.false)

pub returns : goal.returns
returns c =
    sym
    (c.loop-complaint.invariant
    ∙ ap (ascends_from (λ (x : Complaint). x.instance) (λ (x : Complaint). x.against) (complaint_in c.args.setting.now) c.loop-complaint.instance c.loop-complaint.against)
    (drop_all c.loop-complaint.complaint-index c.args.list.now (omega arith)))
