use Rattle.std.proofs.Common.{◌≡◌, ◌≤◌, ◌-◌, map}
use Rattle.plays.specs.Said.{points_up_to}
use Rattle.scenes.specs.Numbers.{seed_of}
use Rattle.recorder.proofs.seeds.first_seeds.Given as goal

abbrev pub invariant-loop-member : goal.invariant-loop-member
invariant-loop-member l = record {
  low : 1 ≤ l.member;
  so_far : l.seeds.items ≡ map (seed_of l.number 0) (points_up_to (l.member - 1));
}
