use Rattle.std.proofs.Common.{◌≡◌, ◌-◌}
use Rattle.scenes.specs.Members.{mask_of}
use Rattle.scenes.specs.Scenes.{is_down_on}
use Rattle.scenes.proofs.side.Side.down.Given as goal

abbrev pub invariant-loop-member : goal.invariant-loop-member
invariant-loop-member l = l.mask ≡ mask_of (l.member - 1) (is_down_on l.self)
