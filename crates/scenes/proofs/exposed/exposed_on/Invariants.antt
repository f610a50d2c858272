use Rattle.std.proofs.Common.{◌≡◌, ◌-◌}
use Rattle.scenes.specs.Exposed.{is_filled}
use Rattle.scenes.specs.Members.{mask_of}
use Rattle.scenes.specs.Scenes.{is_down_on}
use Rattle.scenes.proofs.Filling.{wanting_after}
use Rattle.scenes.proofs.exposed.exposed_on.Given as goal

abbrev pub invariant-loop-member : goal.invariant-loop-member
invariant-loop-member l = record {
  mask : l.mask ≡ mask_of (l.member - 1) (is_filled l.holding.members l.holding.bound (is_down_on l.seen));
  wanting : l.wanting ≡ wanting_after l.holding.members l.holding.bound (is_down_on l.seen) (l.member - 1);
}
