use Rattle.std.proofs.Common.{◌≡◌, ◌-◌}
use Rattle.algebra61.specs.Polynomial.{poly}
use Rattle.choices61.specs.Sets.{vanisher_of}
use Rattle.phaseshift.specs.Members.{behind}
use Rattle.phaseshift.proofs.vanishing.vanisher_of.Given as goal

abbrev pub invariant-loop-member : goal.invariant-loop-member
invariant-loop-member l = l.product ≡ poly (vanisher_of (l.member - 1) (behind l.mask l.shift))
