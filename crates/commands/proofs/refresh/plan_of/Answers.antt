use Rattle.std.proofs.Common.{◌≡◌, ◌∙◌, ◌≤◌, Bool, List, length, ap, sym, subst, arith}
use Rattle.std.proofs.lemmas.Result.{err_from_is_err_and}
use Rattle.sharing61.specs.Count.{how_many}
use Rattle.sizes.specs.Committees.{IsCommittee}
use Rattle.drillbook.specs.Orders.{names}
use Rattle.keyroom.specs.declared.steps.Found.{Found}
use Rattle.keyroom.specs.Sound.{is_down}
use Rattle.commands.specs.Late.{enough_after}
use Rattle.commands.specs.Links.{next_now}
use Rattle.commands.specs.Standing.{down_in}
use Rattle.commands.specs.Phase.{marked, marks_of, next_with, standing_of}
use Rattle.commands.proofs.Committees.{committee_of}
use Rattle.commands.proofs.Ended.{planned_next, refresh_refused, marks_few}
use Rattle.commands.proofs.refresh.plan_of.Goals as goal

pub run_refresh-requires-clause-before : goal.run_refresh-requires-clause-before
run_refresh-requires-clause-before g c = λ κs within.
    c.deref-2.ensures.value ∙ c.in_ok-before.ensures ∙ ap (λ (files : List Found). marks_of (is_down (names c.args.asked.now.drill) files) (length files)) c.deref.ensures.value ∙ ap (marks_of (down_in (standing_of c.args.asked.now))) c.requires.ready.all

pub next_now-now-requires-clause-few : goal.next_now-now-requires-clause-few
next_now-now-requires-clause-few g c =
    let whole : IsCommittee c.args.asked.now.file.n c.args.asked.now.file.t = committee_of c.args.asked.now.file.n c.args.asked.now.file.t c.requires.ready.is_now.size c.requires.ready.is_now.bound in
    let same : c.deref-3.result.now ≡ c.deref-4.result.now = c.deref-3.ensures.value ∙ sym c.deref-4.ensures.value in
    subst (λ (xs : List Bool). how_many c.args.asked.now.file.n (marked xs) ≤ c.args.asked.now.file.t) same
    (marks_few c.args.asked.now.file.n c.args.asked.now.file.t c.deref-3.result.now c.in_ok-_left._left (omega (arith, whole.third)) c.in_ok-_left.ensures.gives)

pub returns-in_err-_left-clause-meaning : goal.returns-in_err-_left-clause-meaning
returns-in_err-_left-clause-meaning g c =
    let p = err_from_is_err_and c.from_residual-in_err-_left.result c.from_residual-in_err-_left.ensures.1 in
    rw (p.1, p.2) (λ is. refresh_refused (standing_of c.args.asked.now) c.args.seeds.now _ c.in_ok-phase.phase c.in_ok-phase.ensures.left c.in_err-_left.field-0.0
    (sym (ap (λ (xs : List Bool). enough_after c.args.asked.now.file.n c.args.asked.now.file.t (marked xs)) c.deref-3.ensures.value) ∙ c.in_err-_left.ensures.gives is))

pub returns-clause-meaning : goal.returns-clause-meaning
returns-clause-meaning g c =
    let whole : IsCommittee c.args.asked.now.file.n c.args.asked.now.file.t = committee_of c.args.asked.now.file.n c.args.asked.now.file.t c.requires.ready.is_now.size c.requires.ready.is_now.bound in
    planned_next (standing_of c.args.asked.now) c.args.seeds.now _ c.in_ok-phase.phase c.in_ok-phase.ensures.left
    c.in_ok-_left._left (omega (arith, whole.third)) (sym (ap (λ (xs : List Bool). enough_after c.args.asked.now.file.n c.args.asked.now.file.t (marked xs)) c.deref-3.ensures.value) ∙ c.in_ok-_left.ensures.gives)
    c.next_now-now.result _ _ (c.next_now-now.ensures ∙ ap (λ (xs : List Bool). next_now c.args.asked.now.file (marked xs)) c.deref-4.ensures.value)
    (c.in_ok-changes.ensures ∙ ap (next_with c.args.asked.now.file c.next_now-now.result) c.deref-5.ensures.value) c.in_ok-text.ensures
