use Rattle.std.proofs.Common.{◌≡◌, ◌≤◌, ◌-◌}
use Rattle.talk.specs.Sync.{has}
use Rattle.commands.specs.Phase.{shares_given}
use Rattle.recorder.proofs.Begins.{ones}
use Rattle.recorder.proofs.tests.shares_of.Given as goal

abbrev pub invariant-loop-member : goal.invariant-loop-member
invariant-loop-member l = record {
  low : 1 ≤ l.member;
  so_far : l.shares.items ≡ shares_given (has l.side.shareless) (λ member. ones) (l.member - 1);
}
