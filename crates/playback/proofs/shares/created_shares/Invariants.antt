use Rattle.std.proofs.Common.{◌≡◌, ◌-◌, map}
use Rattle.plays.specs.Play.{created_share}
use Rattle.plays.specs.Said.{points_up_to}
use Rattle.playback.specs.Recorded.{play_of}
use Rattle.playback.specs.Shares.{shares_at}
use Rattle.playback.proofs.shares.created_shares.Given as goal

abbrev pub invariant-loop-receiver : goal.invariant-loop-receiver
invariant-loop-receiver l = l.list.items ≡ map (shares_at (play_of l.phase) (created_share (play_of l.phase))) (points_up_to (l.receiver - 1))
