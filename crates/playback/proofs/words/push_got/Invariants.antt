use Rattle.std.proofs.Common.{◌≡◌, ◌-◌, ◌++◌}
use Rattle.std.specs.List.{flat_map}
use Rattle.plays.specs.Said.{points_up_to}
use Rattle.choices61.specs.Views.{rings_got}
use Rattle.playback.specs.Recorded.{play_of}
use Rattle.playback.proofs.words.push_got.Given as goal

abbrev pub invariant-loop-to : goal.invariant-loop-to
invariant-loop-to l = l.list ≡ l.fn.list ++ flat_map (rings_got (play_of l.phase) l.round) (points_up_to (l.to - 1))
