use Rattle.std.proofs.Common.{◌≡◌, ◌∙◌, ◌≤◌, Bool, List, ap, sym, subst, arith}
use Rattle.std.proofs.lemmas.Result.{err_from_is_err_and}
use Rattle.sharing61.specs.Count.{how_many}
use Rattle.sizes.specs.Committees.{IsCommittee}
use Rattle.commands.specs.Late.{enough_after}
use Rattle.commands.specs.Links.{first_link, first_now}
use Rattle.commands.specs.Phase.{marked, period_with}
use Rattle.commands.proofs.Committees.{committee_of}
use Rattle.commands.proofs.Ended.{create_planned, create_refused, marks_few}
use Rattle.commands.proofs.create.plan_of.Goals as goal

pub first_now-now-requires-clause-few : goal.first_now-now-requires-clause-few
first_now-now-requires-clause-few g c =
    let whole : IsCommittee c.args.committee.members c.args.committee.bound = committee_of c.args.committee.members c.args.committee.bound c.requires.size c.requires.bound in
    let same : c.deref-2.result.now ≡ c.deref-3.result.now = c.deref-2.ensures.value ∙ sym c.deref-3.ensures.value in
    subst (λ (xs : List Bool). how_many c.args.committee.members (marked xs) ≤ c.args.committee.bound) same
    (marks_few c.args.committee.members c.args.committee.bound c.deref-2.result.now c.in_ok-_left._left (omega (arith, whole.third)) c.in_ok-_left.ensures.gives)

pub returns-in_err-_left-clause-meaning : goal.returns-in_err-_left-clause-meaning
returns-in_err-_left-clause-meaning g c =
    let p = err_from_is_err_and c.from_residual-in_err-_left.result c.from_residual-in_err-_left.ensures.1 in
    rw (p.1, p.2) (λ is. create_refused c.args.name.now c.args.committee.members c.args.committee.bound c.args.drill.now c.args.seeds.now _ c.in_ok-phase.phase c.in_ok-phase.ensures.left c.in_err-_left.field-0.0
    (sym (ap (λ (xs : List Bool). enough_after c.args.committee.members c.args.committee.bound (marked xs)) c.deref-2.ensures.value) ∙ c.in_err-_left.ensures.gives is))

pub returns-clause-meaning : goal.returns-clause-meaning
returns-clause-meaning g c =
    let whole : IsCommittee c.args.committee.members c.args.committee.bound = committee_of c.args.committee.members c.args.committee.bound c.requires.size c.requires.bound in
    create_planned c.args.name.now c.args.committee.members c.args.committee.bound c.args.drill.now c.args.seeds.now _ c.in_ok-phase.phase c.in_ok-phase.ensures.left
    c.in_ok-_left._left (omega (arith, whole.third)) (sym (ap (λ (xs : List Bool). enough_after c.args.committee.members c.args.committee.bound (marked xs)) c.deref-2.ensures.value) ∙ c.in_ok-_left.ensures.gives)
    c.first_now-now.result _ _
    (c.first_now-now.ensures ∙ ap (λ (xs : List Bool). first_now c.args.name.now c.args.committee.members c.args.committee.bound (first_link c.args.name.now c.args.committee.members c.args.committee.bound (marked xs))) c.deref-3.ensures.value)
    (c.in_ok-changes.ensures ∙ ap (period_with c.first_now-now.result) c.deref-4.ensures.value) c.in_ok-text.ensures
