use Rattle.std.proofs.Common.{◌≡◌}
use Rattle.plays.specs.Said.{vote_list}
use Rattle.plays.specs.Seat.{says_yes}
use Rattle.vss_core.proofs.votes.votes_of.Given as goal

abbrev pub invariant-loop-i : goal.invariant-loop-i
invariant-loop-i l = l.votes ≡ vote_list l.i (says_yes l.setting l.me l.pairs l.third l.fourth)
