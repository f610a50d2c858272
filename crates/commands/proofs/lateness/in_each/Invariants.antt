use Rattle.std.proofs.Common.{◌≡◌, drop}
use Rattle.commands.specs.Late.{in_each}
use Rattle.commands.proofs.lateness.in_each.Given as goal

abbrev pub invariant-loop-mask : goal.invariant-loop-mask
invariant-loop-mask l = in_each (drop l.mask-index l.masks) l.seat ≡ in_each l.masks l.seat
