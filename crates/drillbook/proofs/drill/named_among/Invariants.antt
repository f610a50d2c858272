use Rattle.std.proofs.Common.{◌≡◌, ◌≤◌, ◌-◌}
use Rattle.drillbook.specs.Text.{named_among}
use Rattle.drillbook.proofs.drill.named_among.Given as goal

abbrev pub invariant-loop-j : goal.invariant-loop-j
invariant-loop-j l = record {
  counted : l.count ≡ named_among l.drill l.shift (l.j - 1);
  few : l.count ≤ l.j - 1;
}
