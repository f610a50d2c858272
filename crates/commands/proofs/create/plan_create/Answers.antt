use Rattle.std.proofs.Common.{arith}
use Rattle.std.proofs.lemmas.Result.{err_from_is_err_and}
use Rattle.talk.specs.Shape.{create_shape}
use Rattle.keyroom.specs.Commands.{text_of}
use Rattle.commands.specs.Create.{Creates, CreateTakes, create_asked}
use Rattle.commands.proofs.Asking.{create_takes, planned_told, refused_told, enough_here, from_seeds}
use Rattle.commands.proofs.Attending.{attended_all}
use Rattle.commands.proofs.create.plan_create.Goals as goal

pub returns-in_err-drill-clause-meaning : goal.returns-in_err-drill-clause-meaning
returns-in_err-drill-clause-meaning g c =
    let p = err_from_is_err_and c.from_residual.result c.from_residual.ensures.1 in
    rw (p.1, p.2) (refused_told (create_asked c.args.name.now (create_shape c.args.committee.members c.args.committee.bound) (text_of c.args.drill))
    (Creates c.args.name.now c.args.committee.members c.args.committee.bound) (CreateTakes c.args.name.now c.args.committee.members c.args.committee.bound (text_of c.args.drill)) (λ orders. c.args.committee.members)
    (create_takes c.args.name.now c.args.committee.members c.args.committee.bound (text_of c.args.drill))
    (g.H.Shelf.held c.args.shelf.now) (g.E.Entropy.coming c.args.entropy.now) _ _ _ c.in_err-drill.field-0.0 (rw c.create-setting.ensures at c.in_err-drill.ensures.gives) c.in_err-drill.ensures.cause)

pub returns-clause-meaning : goal.returns-clause-meaning
returns-clause-meaning g c =
    planned_told (create_asked c.args.name.now (create_shape c.args.committee.members c.args.committee.bound) (text_of c.args.drill))
    (Creates c.args.name.now c.args.committee.members c.args.committee.bound) (CreateTakes c.args.name.now c.args.committee.members c.args.committee.bound (text_of c.args.drill)) (λ orders. c.args.committee.members)
    (create_takes c.args.name.now c.args.committee.members c.args.committee.bound (text_of c.args.drill))
    (g.H.Shelf.held c.args.shelf.now) (g.E.Entropy.coming c.args.entropy.now) _ _ c.in_ok-drill.drill c.plan_with.result (rw c.create-setting.ensures at c.in_ok-drill.ensures.gives) c.plan_with.ensures.meaning

pub returns-clause-cause : goal.returns-clause-cause
returns-clause-cause g c = from_seeds _ _ _ _ _ _ c.plan_with.result c.in_ok-drill.ensures.reads.later c.plan_with.ensures.later c.plan_with.ensures.lent.faults c.plan_with.ensures.cause

pub returns-clause-calm : goal.returns-clause-calm
returns-clause-calm g c = λ calm enough. c.plan_with.ensures.calm calm
    (enough_here (create_asked c.args.name.now (create_shape c.args.committee.members c.args.committee.bound) (text_of c.args.drill))
    (Creates c.args.name.now c.args.committee.members c.args.committee.bound) (CreateTakes c.args.name.now c.args.committee.members c.args.committee.bound (text_of c.args.drill)) (λ orders. c.args.committee.members)
    (create_takes c.args.name.now c.args.committee.members c.args.committee.bound (text_of c.args.drill)) c.args.committee.members
    (g.H.Shelf.held c.args.shelf.now) (g.E.Entropy.coming c.args.entropy.now) c.in_ok-drill.drill (omega arith) (rw c.create-setting.ensures at c.in_ok-drill.ensures.gives) enough)

pub returns-clause-attended : goal.returns-clause-attended
returns-clause-attended g c = attended_all c.args.committee.members _ _ c.plan_with.result c.plan_with.ensures.attended
