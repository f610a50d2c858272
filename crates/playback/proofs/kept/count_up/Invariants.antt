use Rattle.std.proofs.Common.{◌≡◌, ◌-◌, ◌≤◌}
use Rattle.playback.specs.Recorded.{up_to}
use Rattle.playback.proofs.kept.count_up.Given as goal

abbrev pub invariant-loop-dealer : goal.invariant-loop-dealer
invariant-loop-dealer l = record {
  count : l.count ≡ up_to l.down (l.dealer - 1);
  few : l.count ≤ l.dealer - 1;
}
