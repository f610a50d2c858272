use Rattle.std.proofs.Common.{[], get_or, map, ap, ◌∙◌, arith}
use Rattle.plays.specs.Said.{points_up_to}
use Rattle.periods.specs.Move.{moved_share}
use Rattle.playback.specs.Recorded.{play_of}
use Rattle.playback.specs.Shares.{shares_at}
use Rattle.playback.proofs.Places.{points_map_step}
use Rattle.playback.proofs.shares.moved_with.Goals as goal

pub loop-receiver-preserved : goal.loop-receiver-preserved
loop-receiver-preserved c =
    points_map_step (shares_at (play_of c.args.phase.now) (λ lane j. moved_share (play_of c.args.phase.now) lane (get_or c.args.errors.now lane []) j)) c.loop-receiver.receiver c.loop-receiver.list.items _ _ (omega arith)
    c.loop-receiver.invariant c.in_ok-push.ensures.items c.in_ok-moved_at.ensures

pub returns : goal.returns
returns c =
    c.loop-receiver.invariant
    ∙ ap (λ n. map (shares_at (play_of c.args.phase.now) (λ lane j. moved_share (play_of c.args.phase.now) lane (get_or c.args.errors.now lane []) j)) (points_up_to n)) (omega arith)
