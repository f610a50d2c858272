use Rattle.std.proofs.Common.{arith}
use Rattle.plays.proofs.Lists.{points_step}
use Rattle.choices61.specs.Views.{rings_got}
use Rattle.playback.specs.Recorded.{play_of}
use Rattle.playback.proofs.words.push_got.Goals as goal

pub loop-to-preserved : goal.loop-to-preserved
loop-to-preserved c =
    points_step (rings_got (play_of c.args.phase.now) c.args.round) c.loop-to.to c.args.list.now c.loop-to.list _ (omega arith) c.loop-to.invariant c.in_ok-push_if_down.ensures
