use Rattle.std.proofs.Common.{◌≡◌, [], get_or}
use Rattle.std.specs.List.{flat_map}
use Rattle.sharing61.specs.Rules.{pair_on}
use Rattle.plays.specs.Said.{pair_list, places}
use Rattle.vss_core.proofs.dealer.dealt_to.Given as goal

abbrev pub invariant-loop-lane : goal.invariant-loop-lane
invariant-loop-lane l = l.list ≡ flat_map (λ k. pair_list l.degree (pair_on (get_or l.grids k []) l.receiver)) (places l.lane)
