use Rattle.std.proofs.Common.{◌≡◌, ◌+◌, ◌++◌, cond, []}
use Rattle.std.specs.List.{flat_map}
use Rattle.talk.specs.Sync.{has, posts_heard, rings_heard}
use Rattle.plays.specs.Said.{points_up_to}
use Rattle.plays.specs.Seat.{post_at, ring_at}
use Rattle.hearsay.specs.Said.{seat_items}
use Rattle.hearsay.proofs.said.push_round.Given as goal

abbrev pub invariant-loop-word : goal.invariant-loop-word
invariant-loop-word l = record {
  seat : l.seat ≡ l.word-index + 1;
  heard : l.said ≡ l.fn.said ++ flat_map
      (λ seat. cond (has l.down seat) (seat_items l.setting l.round seat (post_at (posts_heard l.setting l.round l.mask 1 l.words) seat) (λ to. ring_at (rings_heard l.setting l.round l.mask to 1 l.words) seat)) [])
      (points_up_to l.word-index);
}
