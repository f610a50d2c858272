use Rattle.std.proofs.Common.{◌≡◌, get_or, map}
use Rattle.algebra61.specs.Field.{zeroₚ}
use Rattle.plays.specs.Said.{places}
use Rattle.viewshift.specs.Others.{other_at}
use Rattle.viewshift.proofs.choices.other_phases.Given as goal

abbrev pub invariant-loop-place : goal.invariant-loop-place
invariant-loop-place l = l.list ≡ map (other_at l.phases l.exposed (λ lane. get_or l.difference lane zeroₚ)) (places l.place)
