use Rattle.std.proofs.Common.{◌≡◌, ◌<◌, ◌≤◌, ◌^◌, ◌-◌, ℕ}
use Rattle.talk.specs.Sync.{has}
use Rattle.drillbook.specs.Orders.{names}
use Rattle.drillbook.proofs.drill.Drill.named.Given as goal

abbrev pub invariant-loop-seat : goal.invariant-loop-seat
invariant-loop-seat l = record {
  below : l.mask < 2 ^ (l.seat - 1);
  named : (k : ℕ) → 1 ≤ k → k < l.seat → has l.mask k ≡ names l.self k;
}
