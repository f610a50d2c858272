use Rattle.std.proofs.Common.{◌≡◌, ◌-◌}
use Rattle.sharing61.specs.Count.{how_many}
use Rattle.plays.specs.Play.{seat_of}
use Rattle.plays.specs.Read.{voted_in}
use Rattle.plays.specs.Seat.{post_at}
use Rattle.vss_core.proofs.revealed.yes_votes.Given as goal

abbrev pub invariant-loop-j : goal.invariant-loop-j
invariant-loop-j l = l.count ≡ how_many (l.j - 1) (λ j. voted_in l.instance (post_at l.posts (seat_of l.setting j)))
