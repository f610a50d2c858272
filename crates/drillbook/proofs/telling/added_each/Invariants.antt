use Rattle.std.proofs.Common.{◌≡◌, ◌++◌, drop}
use Rattle.drillbook.specs.Word.{added_from, added_each}
use Rattle.drillbook.proofs.telling.added_each.Given as goal

abbrev pub invariant-loop-place : goal.invariant-loop-place
invariant-loop-place l = l.added ++ added_from l.step l.by l.place (drop l.place l.list) ≡ added_each l.step l.by l.list
