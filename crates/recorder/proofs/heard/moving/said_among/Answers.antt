use Rattle.std.proofs.Common.{ℕ, List, ap, ◌∙◌}
use Rattle.algebra61.specs.Field.{Fp}
use Rattle.drillbook.specs.Word.{drilled_ways}
use Rattle.moveshare.specs.Minds.{mind_ways}
use Rattle.hearsay.specs.Said.{said_in}
use Rattle.commands.specs.Late.{down_after}
use Rattle.commands.specs.Move.{down_moving, moving, seats_in}
use Rattle.commands.specs.Phase.{standing_of}
use Rattle.commands.specs.Standing.{held_on, holdings}
use Rattle.commands.proofs.MovingMinds.{sized_setting, sized_minds, all_minds, fresh_minds, made_minds}
use Rattle.recorder.proofs.HeardAs.{heard_as, marks_as}
use Rattle.recorder.proofs.HeardMoves.{move_alike}
use Rattle.recorder.proofs.heard.moving.said_among.Goals as goal

pub said_of-requires-clause-all : goal.said_of-requires-clause-all
said_of-requires-clause-all g c =
    let minds = sized_minds c.args.bound c.args.asked.now.file.n c.args.committee.members c.args.asked.now.file.t c.args.committee.bound c.args.asked.now.drill (holdings (moving c.args.asked.now.drill c.args.committee.bound) 1 c.args.asked.now.files.items c.args.seeds.now) _ c.requires.old c.requires.new c.requires.bound c.in_ok-minds.ensures in
    all_minds (standing_of c.args.asked.now) c.args.committee.members c.args.committee.bound c.requires.may c.args.seeds.now _ _ (sized_setting g.row.N g.row.M c.args.bound c.args.asked.now.file.n c.args.committee.members c.args.asked.now.file.t c.args.committee.bound _ c.requires.old c.requires.new c.requires.bound c.moving-setting.ensures) minds

pub said_of-requires-clause-fresh : goal.said_of-requires-clause-fresh
said_of-requires-clause-fresh g c =
    let minds = sized_minds c.args.bound c.args.asked.now.file.n c.args.committee.members c.args.asked.now.file.t c.args.committee.bound c.args.asked.now.drill (holdings (moving c.args.asked.now.drill c.args.committee.bound) 1 c.args.asked.now.files.items c.args.seeds.now) _ c.requires.old c.requires.new c.requires.bound c.in_ok-minds.ensures in
    fresh_minds (standing_of c.args.asked.now) c.args.committee.members c.args.committee.bound c.requires.may c.args.seeds.now _ _ (sized_setting g.row.N g.row.M c.args.bound c.args.asked.now.file.n c.args.committee.members c.args.asked.now.file.t c.args.committee.bound _ c.requires.old c.requires.new c.requires.bound c.moving-setting.ensures) minds

pub said_of-requires-clause-made : goal.said_of-requires-clause-made
said_of-requires-clause-made g c =
    let minds = sized_minds c.args.bound c.args.asked.now.file.n c.args.committee.members c.args.asked.now.file.t c.args.committee.bound c.args.asked.now.drill (holdings (moving c.args.asked.now.drill c.args.committee.bound) 1 c.args.asked.now.files.items c.args.seeds.now) _ c.requires.old c.requires.new c.requires.bound c.in_ok-minds.ensures in
    made_minds (standing_of c.args.asked.now) c.args.committee.members c.args.committee.bound c.requires.may c.args.seeds.now _ _ (sized_setting g.row.N g.row.M c.args.bound c.args.asked.now.file.n c.args.committee.members c.args.asked.now.file.t c.args.committee.bound _ c.requires.old c.requires.new c.requires.bound c.moving-setting.ensures) minds

pub returns : goal.returns
returns g c =
    let minds = sized_minds c.args.bound c.args.asked.now.file.n c.args.committee.members c.args.asked.now.file.t c.args.committee.bound c.args.asked.now.drill (holdings (moving c.args.asked.now.drill c.args.committee.bound) 1 c.args.asked.now.files.items c.args.seeds.now) _ c.requires.old c.requires.new c.requires.bound c.in_ok-minds.ensures in
    let down = down_after (down_moving (standing_of c.args.asked.now)) c.args.masks.now in
    let own : ℕ → List (List (List Fp)) = λ seat. (held_on (seats_in (standing_of c.args.asked.now) c.args.committee.members c.args.committee.bound c.args.seeds.now) seat).grids in
    heard_as _ _ _ _ (sized_setting g.row.N g.row.M c.args.bound c.args.asked.now.file.n c.args.committee.members c.args.asked.now.file.t c.args.committee.bound _ c.requires.old c.requires.new c.requires.bound c.moving-setting.ensures) minds (drilled_ways mind_ways) c.args.masks.now down own _ (c.in_ok-said.ensures down own (marks_as _ _ (sized_setting g.row.N g.row.M c.args.bound c.args.asked.now.file.n c.args.committee.members c.args.asked.now.file.t c.args.committee.bound _ c.requires.old c.requires.new c.requires.bound c.moving-setting.ensures) _ _ c.requires.marks))
    ∙ ap said_in (move_alike g.row.N g.row.M (standing_of c.args.asked.now) c.args.committee.members c.args.committee.bound c.requires.may c.args.seeds.now c.args.masks.now)
