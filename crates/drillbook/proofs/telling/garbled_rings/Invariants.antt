use Rattle.std.proofs.Common.{◌≡◌}
use Rattle.drillbook.specs.Word.{garbled_rings}
use Rattle.drillbook.proofs.telling.garbled_rings.Given as goal

abbrev pub invariant-loop-place : goal.invariant-loop-place
invariant-loop-place l = l.rings ≡ garbled_rings l.place l.seat
