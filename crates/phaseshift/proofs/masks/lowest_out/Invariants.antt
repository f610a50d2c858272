use Rattle.std.proofs.Common.{◌≡◌, ◌-◌}
use Rattle.talk.specs.Sync.{has}
use Rattle.choices61.specs.Sets.{lowest_out}
use Rattle.phaseshift.proofs.masks.lowest_out.Given as goal

abbrev pub invariant-loop-member : goal.invariant-loop-member
invariant-loop-member l = lowest_out (l.member - 1) (has l.mask) ≡ 0
