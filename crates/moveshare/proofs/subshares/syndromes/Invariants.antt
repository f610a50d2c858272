use Rattle.std.proofs.Common.{◌≡◌}
use Rattle.std.specs.List.{flat_map}
use Rattle.checks61.specs.Checks.{syndrome_of}
use Rattle.plays.specs.Said.{places}
use Rattle.members.specs.Shares.{kept_in}
use Rattle.periods.specs.Mover.{subshare_in}
use Rattle.moveshare.proofs.subshares.syndromes.Given as goal

abbrev pub invariant-loop-lane : goal.invariant-loop-lane
invariant-loop-lane l =
    l.list ≡ flat_map (λ lane. syndrome_of l.sharer.shape.dealers l.sharer.shape.checks (subshare_in (kept_in l.sharer.stage) lane)) (places l.lane)
