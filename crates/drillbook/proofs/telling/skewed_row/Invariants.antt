use Rattle.std.proofs.Common.{◌≡◌, take}
use Rattle.drillbook.specs.Word.{skewed_row}
use Rattle.drillbook.proofs.telling.skewed_row.Given as goal

abbrev pub invariant-loop-place : goal.invariant-loop-place
invariant-loop-place l = l.skewed ≡ take l.place (skewed_row l.by l.row)
