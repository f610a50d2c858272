use Rattle.std.proofs.Common.{sym, subst, arith}
use Rattle.std.specs.Prelude.{Err}
use Rattle.moveshare.specs.declared.lanes.LaneFault.{LaneFault}
use Rattle.moveshare.specs.Lanes.{OpensLanes}
use Rattle.talk.specs.Shape.{Shape}
use Rattle.periods.specs.Move.{IsOpenedSyndrome}
use Rattle.subshare.specs.Opening.{post_of}
use Rattle.moveshare.proofs.Lists.{lane_more}
use Rattle.moveshare.proofs.Answering.{open_stops}
use Rattle.moveshare.proofs.lanes.open_lanes.Goals as goal

pub returns-in-Err : goal.returns-in-Err
returns-in-Err c =
    let s : Shape = c.args.setting.now in
    subst (λ (f : LaneFault). OpensLanes s (post_of s c.args.posts.now) (Err f)) (sym c.fault_at.ensures)
    (open_stops s (post_of s c.args.posts.now) c.loop-lane.lane c.loop-lane.lanes c.in-Err.fault (omega (arith, c.loop-lane-test.true)) c.loop-lane.invariant c.in-Err.ensures)

pub loop-lane-preserved : goal.loop-lane-preserved
loop-lane-preserved c =
    let s : Shape = c.args.setting.now in
    lane_more (IsOpenedSyndrome s (post_of s c.args.posts.now)) c.loop-lane.lane c.loop-lane.lanes c.push.new.self c.in-Ok.syndrome c.loop-lane.invariant c.in-Ok.ensures c.in_ok-push-in-Ok.ensures
