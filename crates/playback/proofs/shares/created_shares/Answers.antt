use Rattle.std.proofs.Common.{◌∙◌, ap, map, arith}
use Rattle.plays.specs.Play.{created_share}
use Rattle.plays.specs.Said.{points_up_to}
use Rattle.playback.specs.Recorded.{play_of}
use Rattle.playback.specs.Shares.{shares_at}
use Rattle.playback.proofs.Places.{points_map_step}
use Rattle.playback.proofs.shares.created_shares.Goals as goal

pub loop-receiver-preserved : goal.loop-receiver-preserved
loop-receiver-preserved c =
    points_map_step (shares_at (play_of c.args.phase.now) (created_share (play_of c.args.phase.now))) c.loop-receiver.receiver c.loop-receiver.list.items _ _ (omega arith) c.loop-receiver.invariant c.in_ok-push.ensures.items c.created_at.ensures

pub returns : goal.returns
returns c = c.loop-receiver.invariant ∙ ap (λ n. map (shares_at (play_of c.args.phase.now) (created_share (play_of c.args.phase.now))) (points_up_to n)) (omega arith)
