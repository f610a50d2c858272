use Rattle.std.proofs.lemmas.Result.{err_from_is_err_and}
use Rattle.sharefile.specs.Files.{Now}
use Rattle.talk.specs.Shape.{move_shape}
use Rattle.keyroom.specs.Commands.{text_of}
use Rattle.commands.specs.Move.{Moves, MoveTakes, move_asked}
use Rattle.commands.specs.Phase.{standing_of}
use Rattle.commands.specs.Standing.{seeds_for}
use Rattle.commands.proofs.Asking.{move_takes, planned_told, refused_told, enough_here, from_seeds}
use Rattle.commands.proofs.Attending.{attended_both}
use Rattle.commands.proofs.GoingOn.{known_now}
use Rattle.commands.proofs.Holdings.{few_seeds}
use Rattle.commands.proofs.Movers.{moves_now}
use Rattle.commands.proofs.moving.plan_move.Goals as goal

pub returns-in_err-asked-clause-meaning : goal.returns-in_err-asked-clause-meaning
returns-in_err-asked-clause-meaning g c =
    let p = err_from_is_err_and c.from_residual.result c.from_residual.ensures.1 in
    rw (p.1, p.2) (refused_told (move_asked c.args.name.now c.args.committee.members c.args.committee.bound (text_of c.args.drill))
    (Moves c.args.committee.members c.args.committee.bound) (MoveTakes c.args.name.now c.args.committee.members c.args.committee.bound (text_of c.args.drill)) seeds_for
    (move_takes c.args.name.now c.args.committee.members c.args.committee.bound (text_of c.args.drill))
    (g.H.Shelf.held c.args.shelf.now) (g.E.Entropy.coming c.args.entropy.now) _ _ _ c.in_err-asked.field-0.0 c.in_err-asked.ensures.gives c.in_err-asked.ensures.cause)

pub returns-clause-meaning : goal.returns-clause-meaning
returns-clause-meaning g c =
    planned_told (move_asked c.args.name.now c.args.committee.members c.args.committee.bound (text_of c.args.drill))
    (Moves c.args.committee.members c.args.committee.bound) (MoveTakes c.args.name.now c.args.committee.members c.args.committee.bound (text_of c.args.drill)) seeds_for
    (move_takes c.args.name.now c.args.committee.members c.args.committee.bound (text_of c.args.drill))
    (g.H.Shelf.held c.args.shelf.now) (g.E.Entropy.coming c.args.entropy.now) _ _ (standing_of c.in_ok-asked.asked) c.plan_with.result c.in_ok-asked.ensures.gives c.plan_with.ensures.meaning

pub returns-clause-cause : goal.returns-clause-cause
returns-clause-cause g c = from_seeds _ _ _ _ _ _ c.plan_with.result c.in_ok-asked.ensures.reads.later c.plan_with.ensures.later c.plan_with.ensures.lent.faults c.plan_with.ensures.cause

pub returns-clause-calm : goal.returns-clause-calm
returns-clause-calm g c = λ calm enough. c.plan_with.ensures.calm calm
    (enough_here (move_asked c.args.name.now c.args.committee.members c.args.committee.bound (text_of c.args.drill))
    (Moves c.args.committee.members c.args.committee.bound) (MoveTakes c.args.name.now c.args.committee.members c.args.committee.bound (text_of c.args.drill)) seeds_for
    (move_takes c.args.name.now c.args.committee.members c.args.committee.bound (text_of c.args.drill)) 13
    (g.H.Shelf.held c.args.shelf.now) (g.E.Entropy.coming c.args.entropy.now) (standing_of c.in_ok-asked.asked) (few_seeds (standing_of c.in_ok-asked.asked) c.in_ok-asked.ensures.may.ready) c.in_ok-asked.ensures.gives enough)

pub returns-clause-now : goal.returns-clause-now
returns-clause-now g c =
    known_now c.plan_with.result
    (moves_now c.args.name.now c.args.committee.members c.args.committee.bound (text_of c.args.drill) (g.H.Shelf.held c.args.shelf.now) (standing_of c.in_ok-asked.asked) c.in_ok-asked.ensures.gives c.in_ok-asked.ensures.may.ready)

pub returns-clause-attended : goal.returns-clause-attended
returns-clause-attended g c =
    attended_both (λ (now : Now). move_shape now.n now.t c.args.committee.members c.args.committee.bound) c.args.name.now (text_of c.args.drill) c.args.committee.members _ _ (g.H.Shelf.held c.args.shelf.now) (standing_of c.in_ok-asked.asked) c.plan_with.result c.in_ok-asked.ensures.gives c.plan_with.ensures.attended
