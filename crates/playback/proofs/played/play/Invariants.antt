use Rattle.std.proofs.Common.{◌≡◌, ◌-◌, ◌<◌, map, min}
use Rattle.std.specs.List.{flat_map}
use Rattle.talk.specs.Shape.{seats}
use Rattle.plays.specs.Said.{points_up_to}
use Rattle.choices61.specs.Views.{post_in_phase, rings_got}
use Rattle.playback.specs.Recorded.{play_of}
use Rattle.playback.specs.Playing.{seats_after, posts_read_in}
use Rattle.playback.proofs.played.play.Given as goal

abbrev pub invariant-loop-round : goal.invariant-loop-round
invariant-loop-round l = record {
  states : l.states.items ≡ seats_after (play_of l.phase) (min (l.round - 1) 5);
  last : 1 < l.round → l.last ≡ posts_read_in (play_of l.phase) (l.round - 1);
  posts : l.posts ≡ flat_map (λ round. map (post_in_phase (play_of l.phase) round) (points_up_to (seats l.phase.setting))) (points_up_to (l.round - 1));
  rings : l.rings ≡ flat_map (λ round. flat_map (rings_got (play_of l.phase) round) (points_up_to (seats l.phase.setting))) (points_up_to (l.round - 1));
}
