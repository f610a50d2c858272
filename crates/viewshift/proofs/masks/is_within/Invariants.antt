use Rattle.std.proofs.Common.{◌-◌}
use Rattle.talk.specs.Sync.{has}
use Rattle.histories61.specs.Phases.{Within}
use Rattle.viewshift.specs.Members.{behind}
use Rattle.viewshift.proofs.masks.is_within.Given as goal

abbrev pub invariant-loop-member : goal.invariant-loop-member
invariant-loop-member l = Within (l.member - 1) (behind l.some l.shift) (has l.all)
