use Rattle.std.proofs.Common.{◌≡◌, ◌-◌, ◌++◌}
use Rattle.std.specs.List.{flat_map}
use Rattle.talk.specs.Read.{ring_as_read}
use Rattle.talk.specs.Sync.{ring_in}
use Rattle.plays.specs.Said.{points_up_to}
use Rattle.hearsay.specs.Said.{ring_items}
use Rattle.hearsay.proofs.said.push_rings.Given as goal

abbrev pub invariant-loop-to : goal.invariant-loop-to
invariant-loop-to l =
    l.said ≡ l.fn.said ++ flat_map (λ to. ring_items l.round l.seat to (ring_as_read l.setting l.round l.seat to (ring_in to l.word))) (points_up_to (l.to - 1))
