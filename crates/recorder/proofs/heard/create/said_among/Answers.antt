use Rattle.std.proofs.Common.{ℕ}
use Rattle.drillbook.specs.Orders.{names}
use Rattle.drillbook.specs.Word.{drilled_ways}
use Rattle.members.specs.Member.{Member, member_ways}
use Rattle.plays.specs.Stage.{IsTurn}
use Rattle.sharer.specs.Sharer.{MadeFor}
use Rattle.commands.specs.Create.{dealt_by, grids_on}
use Rattle.commands.specs.Late.{down_after}
use Rattle.recorder.proofs.HeardAs.{all_as, heard_as, hearing_as, marks_as, seated_as, sized_members, members_all, members_hear, members_sit}
use Rattle.recorder.proofs.heard.create.said_among.Goals as goal

pub said_of-requires-clause-all : goal.said_of-requires-clause-all
said_of-requires-clause-all g c =
    let minds = sized_members g.row.N c.args.committee.members c.args.committee.bound c.args.drill.now (dealt_by c.args.committee.bound c.args.seeds.now) _ c.requires.members c.in_ok-minds.ensures in
    all_as _ _ _ _ c.create-setting.ensures minds (members_all c.args.committee.members c.args.committee.bound c.args.drill.now c.args.seeds.now c.requires.seeds)

pub said_of-requires-clause-fresh : goal.said_of-requires-clause-fresh
said_of-requires-clause-fresh g c =
    let minds = sized_members g.row.N c.args.committee.members c.args.committee.bound c.args.drill.now (dealt_by c.args.committee.bound c.args.seeds.now) _ c.requires.members c.in_ok-minds.ensures in
    hearing_as _ _ _ _ c.create-setting.ensures minds (λ (m : Member) (round : ℕ). IsTurn round m.stage) (members_hear c.args.committee.members c.args.committee.bound c.args.drill.now c.args.seeds.now)

pub said_of-requires-clause-made : goal.said_of-requires-clause-made
said_of-requires-clause-made g c =
    let minds = sized_members g.row.N c.args.committee.members c.args.committee.bound c.args.drill.now (dealt_by c.args.committee.bound c.args.seeds.now) _ c.requires.members c.in_ok-minds.ensures in
    seated_as _ _ _ _ c.create-setting.ensures minds MadeFor (members_sit c.args.committee.members c.args.committee.bound c.args.drill.now c.args.seeds.now)

pub returns : goal.returns
returns g c =
    let minds = sized_members g.row.N c.args.committee.members c.args.committee.bound c.args.drill.now (dealt_by c.args.committee.bound c.args.seeds.now) _ c.requires.members c.in_ok-minds.ensures in
    heard_as _ _ _ _ c.create-setting.ensures minds (drilled_ways member_ways) c.args.masks.now (down_after (names c.args.drill.now) c.args.masks.now) (grids_on (dealt_by c.args.committee.bound c.args.seeds.now)) _
    (c.in_ok-said.ensures (down_after (names c.args.drill.now) c.args.masks.now) (grids_on (dealt_by c.args.committee.bound c.args.seeds.now)) (marks_as _ _ c.create-setting.ensures _ _ c.requires.marks))
