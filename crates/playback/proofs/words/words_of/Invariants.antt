use Rattle.std.proofs.Common.{◌≡◌, ◌+◌, map}
use Rattle.plays.specs.Said.{points_up_to}
use Rattle.playback.specs.Recorded.{play_of}
use Rattle.playback.specs.Playing.{word_read}
use Rattle.playback.proofs.words.words_of.Given as goal

abbrev pub invariant-loop-state : goal.invariant-loop-state
invariant-loop-state l = record {
  seat : l.seat ≡ l.state-index + 1;
  words : l.words.items ≡ map (word_read (play_of l.phase) l.round) (points_up_to l.state-index);
}
