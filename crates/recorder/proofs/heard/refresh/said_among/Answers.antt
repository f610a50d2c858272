use Rattle.talk.specs.Part.{part_made_for, part_may, part_ways}
use Rattle.drillbook.specs.Word.{drilled_ways}
use Rattle.periods.specs.Keeper.{keeper_ways}
use Rattle.zeroshare.specs.Refresh.{keeper_made_for, keeper_may}
use Rattle.commands.specs.Late.{down_after}
use Rattle.commands.specs.Phase.{standing_of}
use Rattle.commands.specs.Refresh.{holdings_in}
use Rattle.commands.specs.Standing.{down_in, held_on}
use Rattle.recorder.proofs.HeardAs.{all_as, heard_as, hearing_as, marks_as, seated_as, sized_keeping, sized_keepers, keepers_all, keepers_hear, keepers_sit}
use Rattle.recorder.proofs.heard.refresh.said_among.Goals as goal

pub said_of-requires-clause-all : goal.said_of-requires-clause-all
said_of-requires-clause-all g c =
    let minds = sized_keepers g.row.N c.args.bound (standing_of c.args.asked.now) c.args.seeds.now _ _ c.requires.size c.requires.bound c.deref.ensures.value c.in_ok-minds.ensures in
    all_as _ _ _ _ (sized_keeping g.row.N c.args.bound (standing_of c.args.asked.now) _ c.requires.size c.requires.bound c.refresh-setting.ensures) minds (keepers_all (standing_of c.args.asked.now) c.requires.ready c.args.seeds.now)

pub said_of-requires-clause-fresh : goal.said_of-requires-clause-fresh
said_of-requires-clause-fresh g c =
    let minds = sized_keepers g.row.N c.args.bound (standing_of c.args.asked.now) c.args.seeds.now _ _ c.requires.size c.requires.bound c.deref.ensures.value c.in_ok-minds.ensures in
    hearing_as _ _ _ _ (sized_keeping g.row.N c.args.bound (standing_of c.args.asked.now) _ c.requires.size c.requires.bound c.refresh-setting.ensures) minds (part_may keeper_may) (keepers_hear (standing_of c.args.asked.now) c.requires.ready c.args.seeds.now)

pub said_of-requires-clause-made : goal.said_of-requires-clause-made
said_of-requires-clause-made g c =
    let minds = sized_keepers g.row.N c.args.bound (standing_of c.args.asked.now) c.args.seeds.now _ _ c.requires.size c.requires.bound c.deref.ensures.value c.in_ok-minds.ensures in
    seated_as _ _ _ _ (sized_keeping g.row.N c.args.bound (standing_of c.args.asked.now) _ c.requires.size c.requires.bound c.refresh-setting.ensures) minds (part_made_for keeper_made_for) (keepers_sit (standing_of c.args.asked.now) c.requires.ready c.args.seeds.now)

pub returns : goal.returns
returns g c =
    let minds = sized_keepers g.row.N c.args.bound (standing_of c.args.asked.now) c.args.seeds.now _ _ c.requires.size c.requires.bound c.deref.ensures.value c.in_ok-minds.ensures in
    heard_as _ _ _ _ (sized_keeping g.row.N c.args.bound (standing_of c.args.asked.now) _ c.requires.size c.requires.bound c.refresh-setting.ensures) minds (drilled_ways (part_ways keeper_ways)) c.args.masks.now (down_after (down_in (standing_of c.args.asked.now)) c.args.masks.now)
    (λ seat. (held_on (holdings_in (standing_of c.args.asked.now) c.args.seeds.now) seat).grids) _
    (c.in_ok-said.ensures (down_after (down_in (standing_of c.args.asked.now)) c.args.masks.now) (λ seat. (held_on (holdings_in (standing_of c.args.asked.now) c.args.seeds.now) seat).grids)
    (marks_as _ _ (sized_keeping g.row.N c.args.bound (standing_of c.args.asked.now) _ c.requires.size c.requires.bound c.refresh-setting.ensures) _ _ c.requires.marks))
