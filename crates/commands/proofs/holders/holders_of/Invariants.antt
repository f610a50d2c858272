use Rattle.std.proofs.Common.{◌≡◌, ◌-◌}
use Rattle.commands.specs.Links.{holders_of}
use Rattle.commands.specs.Phase.{marked}
use Rattle.commands.proofs.holders.holders_of.Given as goal

abbrev pub invariant-loop-member : goal.invariant-loop-member
invariant-loop-member l = l.holders ≡ holders_of (marked l.down) (l.member - 1)
