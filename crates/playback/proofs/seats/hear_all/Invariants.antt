use Rattle.std.proofs.Common.{◌≡◌, ◌+◌, ◌-◌, take, drop, map, length}
use Rattle.std.specs.List.{range_with_len}
use Rattle.talk.specs.Shape.{seats}
use Rattle.playback.specs.Recorded.{play_of}
use Rattle.playback.specs.Playing.{seat_after}
use Rattle.playback.proofs.seats.hear_all.Given as goal

abbrev pub invariant-loop-state : goal.invariant-loop-state
invariant-loop-state l = record {
  seat : l.seat ≡ l.state-index + 1;
  many : length l.state-items ≡ seats l.phase.setting;
  heard : take l.state-index l.state-items ≡ map (seat_after (play_of l.phase) l.round) (range_with_len 1 l.state-index);
  rest : drop l.state-index l.state-items
      ≡ map (seat_after (play_of l.phase) (l.round - 1)) (range_with_len (1 + l.state-index) (seats l.phase.setting - l.state-index));
}
