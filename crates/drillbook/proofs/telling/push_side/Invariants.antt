use Rattle.std.proofs.Common.{◌≡◌, ◌++◌, take}
use Rattle.drillbook.specs.Word.{complaints_of}
use Rattle.drillbook.proofs.telling.push_side.Given as goal

abbrev pub invariant-loop-complaint : goal.invariant-loop-complaint
invariant-loop-complaint l = l.list ≡ l.fn.list ++ complaints_of l.instance l.receiver l.side (take l.complaint-index l.own)
