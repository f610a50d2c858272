use Rattle.drillbook.specs.Word.{accused_row}
use Rattle.talk.proofs.Places.{places_step}
use Rattle.drillbook.proofs.telling.accused_list.Goals as goal

pub loop-instance-preserved : goal.loop-instance-preserved
loop-instance-preserved c =
    places_step (accused_row c.args.receiver c.args.crossing.now c.args.own.now) c.loop-instance.instance _ _ c.loop-instance.invariant c.in_ok-push_row.ensures
