use Rattle.std.proofs.Common.{◌-◌, arith}
use Rattle.plays.specs.Play.{seat_of}
use Rattle.plays.specs.Read.{voted_in}
use Rattle.plays.specs.Seat.{post_at}
use Rattle.vss_core.proofs.Steps.{how_many_most}
use Rattle.vss_core.proofs.revealed.yes_votes.Goals as goal

pub overflow_add-count : goal.overflow_add-count
overflow_add-count c =
    omega (arith, c.loop-j.invariant, how_many_most (λ j. voted_in c.args.instance (post_at c.args.posts.now (seat_of c.args.setting.now j))) (c.loop-j.j - 1))
