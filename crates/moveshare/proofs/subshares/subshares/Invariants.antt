use Rattle.std.proofs.Common.{◌≡◌, map}
use Rattle.plays.specs.Said.{points_up_to}
use Rattle.members.specs.Shares.{kept_in}
use Rattle.periods.specs.Mover.{subshare_in}
use Rattle.moveshare.proofs.subshares.subshares.Given as goal

abbrev pub invariant-loop-index : goal.invariant-loop-index
invariant-loop-index l = l.list ≡ map (subshare_in (kept_in l.sharer.stage) l.lane) (points_up_to l.index)
