use Rattle.phaseshift.proofs.Room.{room_created, room_moved, room_refreshed}
use Rattle.phaseshift.proofs.shift.has_room.Goals as goal

pub returns-then-down_among-degree : goal.returns-then-down_among-degree
returns-then-down_among-degree c =
    room_created c.args.phase.now.kind c.args.phase.now.setting c.args.phase.now.down c.args.before c.args.after c.degree-degree.result c.down_among.result c.count_in-exposed.result c.receivers.result c.in-Create.is
    c.degree-degree.ensures.is c.down_among.ensures c.if-down_among-degree.true c.receivers.ensures.is c.count_in-exposed.ensures

pub returns-then-count_in-degree : goal.returns-then-count_in-degree
returns-then-count_in-degree c =
    room_refreshed c.args.phase.now.kind c.args.phase.now.setting c.args.phase.now.down c.args.before c.args.after c.degree-degree.result c.count_in.result c.count_in-exposed.result c.receivers.result c.dealers.result
    c.in-Refresh.is c.degree-degree.ensures.is c.dealers.ensures.is c.count_in.ensures c.if-count_in-degree.true c.receivers.ensures.is c.count_in-exposed.ensures

pub returns-then-down_among-degree-2 : goal.returns-then-down_among-degree-2
returns-then-down_among-degree-2 c =
    room_moved c.args.phase.now.kind c.args.phase.now.setting c.args.phase.now.down c.args.before c.args.after c.degree-degree.result c.down_among-in-Move.result c.count_in-exposed.result c.receivers.result c.in-Move.is
    c.degree-degree.ensures.is c.down_among-in-Move.ensures c.if-down_among-degree-2.true c.receivers.ensures.is c.count_in-exposed.ensures
