use Rattle.std.proofs.Common.{◌≡◌}
use Rattle.std.specs.List.{flat_map}
use Rattle.talk.specs.Basics.{places}
use Rattle.drillbook.specs.Word.{accused_row}
use Rattle.drillbook.proofs.telling.accused_list.Given as goal

abbrev pub invariant-loop-instance : goal.invariant-loop-instance
invariant-loop-instance l = l.list ≡ flat_map (accused_row l.receiver l.crossing l.own) (places l.instance)
