use Rattle.std.proofs.Common.{◌∙◌, ap}
use Rattle.std.specs.Prelude.{count_by}
use Rattle.std.proofs.lemmas.Result.{err_from_is_err_and}
use Rattle.keyroom.specs.Sound.{is_valid}
use Rattle.commands.specs.Phase.{standing_of}
use Rattle.commands.proofs.Planned.{move_planned, move_refused}
use Rattle.commands.proofs.moving.plan_with.Goals as goal

pub returns-clause-meaning : goal.returns-clause-meaning
returns-clause-meaning g c =
    move_planned (standing_of c.args.asked.now) c.args.committee.members c.args.committee.bound c.in_ok-seeds.seeds.items _ _ _ _ c.valid_count-count.result c.deref-2.ensures.value
    c.in_ok-seeds.ensures.count (c.valid_count-count.ensures ∙ ap (count_by is_valid) c.deref.ensures.value) c.in_ok-seeds.ensures.first c.in_ok-seeds.ensures.took c.in_ok-plan.plan c.in_ok-plan.ensures.meaning

pub returns-in_err-plan-clause-meaning : goal.returns-in_err-plan-clause-meaning
returns-in_err-plan-clause-meaning g c =
    let p = err_from_is_err_and c.from_residual-in_err-plan.result c.from_residual-in_err-plan.ensures.1 in
    rw (p.1, p.2) (move_refused (standing_of c.args.asked.now) c.args.committee.members c.args.committee.bound c.in_ok-seeds.seeds.items _ _ _ _ c.valid_count-count.result c.deref-2.ensures.value
    c.in_ok-seeds.ensures.count (c.valid_count-count.ensures ∙ ap (count_by is_valid) c.deref.ensures.value) c.in_ok-seeds.ensures.first c.in_ok-seeds.ensures.took _ _ c.in_err-plan.field-0.0 c.in_err-plan.ensures.cause c.in_err-plan.ensures.meaning)
