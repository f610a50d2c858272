use Rattle.std.proofs.Common.{◌≡◌, map}
use Rattle.talk.specs.Basics.{places}
use Rattle.scenes.specs.Exposed.{exposed_at}
use Rattle.scenes.proofs.exposed.exposed_masks.Given as goal

abbrev pub invariant-loop-phase : goal.invariant-loop-phase
invariant-loop-phase l = l.masks ≡ map (exposed_at l.fn.committee.members l.fn.committee.bound l.number l.periods) (places l.phase)
