use Rattle.std.proofs.Common.{◌∙◌, List, ap}
use Rattle.talk.specs.Shape.{move_shape}
use Rattle.keyroom.specs.declared.steps.Found.{Found}
use Rattle.commands.specs.Move.{moving}
use Rattle.commands.specs.MovePhase.{old_on}
use Rattle.commands.specs.Run.{numbered, drilled_all}
use Rattle.commands.specs.Standing.{holdings}
use Rattle.commands.proofs.Holdings.{length-holdings}
use Rattle.commands.proofs.MovingMinds.{both_minds}
use Rattle.commands.proofs.moving_phase.move_minds.Goals as goal

pub returns : goal.returns
returns g c =
    both_minds (move_shape g.row.N c.args.bounds.old g.row.M c.args.bounds.new) c.args.asked.now.drill (holdings (moving c.args.asked.now.drill c.args.bounds.new) 1 c.args.asked.now.files.items c.args.seeds.now) g.row.M
    c.in_ok-minds.minds.items c.push_receivers.new.minds.items (length-holdings (moving c.args.asked.now.drill c.args.bounds.new) 1 c.args.asked.now.files.items c.args.seeds.now ∙ c.requires.files)
    (c.in_ok-minds.ensures ∙ ap (λ (files : List Found). drilled_all (move_shape g.row.N c.args.bounds.old g.row.M c.args.bounds.new) c.args.asked.now.drill (numbered (old_on {N = g.row.N} {M = g.row.M} (move_shape g.row.N c.args.bounds.old g.row.M c.args.bounds.new)) 1 (holdings (moving c.args.asked.now.drill c.args.bounds.new) 1 files c.args.seeds.now))) c.deref.ensures.value)
    c.in_ok-push_receivers.ensures
