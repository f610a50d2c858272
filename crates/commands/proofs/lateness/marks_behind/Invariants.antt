use Rattle.std.proofs.Common.{◌≡◌, ◌≤◌, ◌+◌, ◌-◌}
use Rattle.commands.specs.Phase.{marked, marks_of}
use Rattle.commands.proofs.lateness.marks_behind.Given as goal

abbrev pub invariant-loop-member : goal.invariant-loop-member
invariant-loop-member l = record {
  low : 1 ≤ l.member;
  so_far : l.behind.items ≡ marks_of (λ j. marked l.marks (l.shift + j)) (l.member - 1);
}
