use Rattle.std.proofs.Common.{◌≡◌, ◌+◌, ◌≤◌, length, []}
use Rattle.drillbook.specs.Text.{lines_at, split}
use Rattle.drillbook.proofs.read.read_lines.Given as goal

abbrev pub invariant-loop-end : goal.invariant-loop-end
invariant-loop-end l = record {
  same : lines_at l.setting 1 [] (split 10 l.fn.text) ≡ lines_at l.setting l.line l.drill (split 10 l.rest);
  few : l.line + length l.rest ≤ 1 + length l.fn.text;
}

abbrev pub decreases-loop-end : goal.decreases-loop-end
decreases-loop-end l = length l.rest
