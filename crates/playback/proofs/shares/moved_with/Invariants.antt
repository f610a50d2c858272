use Rattle.std.proofs.Common.{◌≡◌, ◌-◌, [], map, get_or}
use Rattle.periods.specs.Move.{moved_share}
use Rattle.plays.specs.Said.{points_up_to}
use Rattle.playback.specs.Recorded.{play_of}
use Rattle.playback.specs.Shares.{shares_at}
use Rattle.playback.proofs.shares.moved_with.Given as goal

abbrev pub invariant-loop-receiver : goal.invariant-loop-receiver
invariant-loop-receiver l =
    l.list.items ≡ map (shares_at (play_of l.phase) (λ lane j. moved_share (play_of l.phase) lane (get_or l.errors lane []) j)) (points_up_to (l.receiver - 1))
