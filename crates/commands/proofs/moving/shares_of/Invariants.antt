use Rattle.std.proofs.Common.{◌≡◌, ◌++◌, drop, map}
use Rattle.commands.specs.MovePhase.{shares_at}
use Rattle.commands.proofs.moving.shares_of.Given as goal

abbrev pub invariant-loop-out : goal.invariant-loop-out
invariant-loop-out l = l.shares.items ++ map shares_at (drop l.out-index l.outs) ≡ map shares_at l.outs
