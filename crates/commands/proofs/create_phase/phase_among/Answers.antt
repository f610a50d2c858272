use Rattle.std.proofs.Common.{◌∙◌, ℕ, refl, sym, arith}
use Rattle.talk.specs.Shape.{create_shape}
use Rattle.drillbook.specs.Orders.{names}
use Rattle.members.specs.Member.{Member}
use Rattle.plays.specs.Stage.{IsTurn}
use Rattle.sharer.specs.Sharer.{MadeFor}
use Rattle.commands.specs.Create.{dealt_by, members_on}
use Rattle.commands.proofs.Phases.{drilled_hearing, drilled_seated, length-marks}
use Rattle.commands.proofs.Created.{length-minds, members_hearing, members_seated, create_done, create_masks, create_is_phase}
use Rattle.commands.proofs.create_phase.phase_among.Goals as goal

pub phase_of-requires-clause-few : goal.phase_of-requires-clause-few
phase_of-requires-clause-few g c = rw c.in_ok-minds.ensures (omega (arith, length-minds g.row.N c.args.bound c.args.drill.now c.args.seeds.now c.requires.seeds, c.requires.committee.most))

pub phase_of-requires-clause-some : goal.phase_of-requires-clause-some
phase_of-requires-clause-some g c = omega (arith, c.requires.committee.third, c.requires.committee.some_bad)

pub phase_of-requires-clause-seats : goal.phase_of-requires-clause-seats
phase_of-requires-clause-seats g c = rw c.create-setting.ensures (omega arith)

pub phase_of-requires-clause-all : goal.phase_of-requires-clause-all
phase_of-requires-clause-all g c = λ κs within. rw (c.in_ok-minds.ensures, c.create-setting.ensures) (length-minds g.row.N c.args.bound c.args.drill.now c.args.seeds.now c.requires.seeds ∙ omega arith)

pub phase_of-requires-clause-fresh : goal.phase_of-requires-clause-fresh
phase_of-requires-clause-fresh g c = λ κs within.
    rw c.in_ok-minds.ensures (drilled_hearing (λ (m : Member) (round : ℕ). IsTurn round m.stage) (create_shape g.row.N c.args.bound) c.args.drill.now 1 (members_on (create_shape g.row.N c.args.bound) (dealt_by c.args.bound c.args.seeds.now))
    (members_hearing (create_shape g.row.N c.args.bound) 1 (dealt_by c.args.bound c.args.seeds.now)))

pub phase_of-requires-clause-made : goal.phase_of-requires-clause-made
phase_of-requires-clause-made g c = λ κs within.
    rw (c.in_ok-minds.ensures, c.create-setting.ensures) (drilled_seated MadeFor (create_shape g.row.N c.args.bound) c.args.drill.now 1 (members_on (create_shape g.row.N c.args.bound) (dealt_by c.args.bound c.args.seeds.now))
    (members_seated (create_shape g.row.N c.args.bound) 1 (dealt_by c.args.bound c.args.seeds.now) refl))

pub phase_of-requires-clause-marks : goal.phase_of-requires-clause-marks
phase_of-requires-clause-marks g c = λ κs within.
    rw (c.in_ok-minds.ensures, c.requires.drilled)
    (length-marks (names c.args.drill.now) g.row.N ∙ sym (length-minds g.row.N c.args.bound c.args.drill.now c.args.seeds.now c.requires.seeds))

pub phase_of-requires-clause-ends : goal.phase_of-requires-clause-ends
phase_of-requires-clause-ends g c = λ κs within.
    rw (c.in_ok-minds.ensures, c.create-setting.ensures, c.requires.drilled) (create_done g.row.N c.args.bound c.requires.committee c.args.drill.now c.args.seeds.now c.requires.seeds)

pub returns-clause-left : goal.returns-clause-left
returns-clause-left g c =
    let off = rw (c.in_ok-minds.ensures, c.create-setting.ensures, c.requires.drilled) at c.in_ok-phase.ensures.left in (
      create_masks g.row.N c.args.bound c.requires.committee c.args.drill.now c.args.seeds.now c.requires.seeds _ c.in_ok-phase.phase off,
      create_is_phase g.row.N c.args.bound c.requires.committee c.args.drill.now c.args.seeds.now c.requires.seeds _ c.in_ok-phase.phase off,
    )
