use Rattle.std.proofs.Common.{Ok, Err}
use Rattle.std.proofs.lemmas.Result.{err_from_is_err_and}
use Rattle.commands.proofs.Ended.{create_behind}
use Rattle.commands.proofs.create.plan_with.Goals as goal

pub returns-clause-meaning : goal.returns-clause-meaning
returns-clause-meaning g c =
    create_behind c.args.name.now c.args.committee.members c.args.committee.bound c.args.drill.now c.in_ok-seeds.seeds.items _ _ _ _ 0 0 (Ok c.in_ok-plan.plan) c.deref.ensures.value
    c.in_ok-seeds.ensures.count c.in_ok-seeds.ensures.first c.in_ok-seeds.ensures.took tt c.in_ok-plan.ensures.meaning

pub returns-in_err-plan-clause-meaning : goal.returns-in_err-plan-clause-meaning
returns-in_err-plan-clause-meaning g c =
    let p = err_from_is_err_and c.from_residual-in_err-plan.result c.from_residual-in_err-plan.ensures.1 in
    rw (p.1, p.2) (create_behind c.args.name.now c.args.committee.members c.args.committee.bound c.args.drill.now c.in_ok-seeds.seeds.items _ _ _ _ _ _ (Err c.in_err-plan.field-0.0) c.deref.ensures.value
    c.in_ok-seeds.ensures.count c.in_ok-seeds.ensures.first c.in_ok-seeds.ensures.took c.in_err-plan.ensures.cause c.in_err-plan.ensures.meaning)
