use Rattle.std.proofs.Common.{◌≡◌, take}
use Rattle.lives.proofs.sights.masks.Given as goal

abbrev pub invariant-loop-mask : goal.invariant-loop-mask
invariant-loop-mask l = l.list.items ≡ take l.mask-index l.given
