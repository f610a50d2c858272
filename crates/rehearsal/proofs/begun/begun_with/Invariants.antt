use Rattle.std.proofs.Common.{◌≡◌, ◌-◌, map}
use Rattle.plays.specs.Said.{points_up_to}
use Rattle.rehearsal.specs.Lived.{kept_of}
use Rattle.rehearsal.proofs.begun.begun_with.Given as goal

abbrev pub invariant-loop-member : goal.invariant-loop-member
invariant-loop-member l = l.begun.items ≡ map (kept_of l.shareless l.shares) (points_up_to (l.member - 1))
