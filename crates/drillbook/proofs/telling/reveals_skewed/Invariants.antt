use Rattle.std.proofs.Common.{◌≡◌, take, map}
use Rattle.drillbook.specs.Word.{skewed_reveal}
use Rattle.drillbook.proofs.telling.reveals_skewed.Given as goal

abbrev pub invariant-loop-reveal : goal.invariant-loop-reveal
invariant-loop-reveal l = l.skewed ≡ map (skewed_reveal l.by) (take l.reveal-index l.list)
