use Rattle.std.proofs.Common.{◌≡◌, ◌≤◌, ◌-◌, not, map}
use Rattle.std.specs.List.{filter, range_with_len}
use Rattle.talk.specs.Sync.{has}
use Rattle.scenes.specs.Numbers.{seed_of}
use Rattle.recorder.proofs.seeds.later_seeds.Given as goal

abbrev pub invariant-loop-member : goal.invariant-loop-member
invariant-loop-member l = record {
  low : 1 ≤ l.member;
  so_far : l.seeds.items ≡ map (seed_of l.number l.place) (filter (λ member. not (has l.side.shareless member)) (range_with_len 1 (l.member - 1)));
}
