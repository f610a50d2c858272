use Rattle.std.proofs.Common.{rules, ◌-◌}
use Rattle.roundboard.specs.Answers.{last_look}
use Rattle.roundboard.specs.Pens.{events}
use Rattle.party_crew.proofs.Growth.{wait_grew, wait_no_arrivals}
use Rattle.party_crew.proofs.waits.await_mask.Goals as goal

pub returns-in-Frozen-clause-grew : goal.returns-in-Frozen-clause-grew
returns-in-Frozen-clause-grew g c =
    let t = c.wait_round.ensures.told in wait_grew (c.args.round - 1) (last_look c.wait_round.result) (events c.args.pen.now) t.0 (events c.wait_round.new.pen) t.1 t.2

pub returns-in-Frozen-clause-no_arrivals : goal.returns-in-Frozen-clause-no_arrivals
returns-in-Frozen-clause-no_arrivals g c =
    let t = c.wait_round.ensures.told in wait_no_arrivals (c.args.round - 1) (last_look c.wait_round.result) (events c.args.pen.now) t.0 (events c.wait_round.new.pen) t.1 t.2

pub returns-in-Aborted-clause-grew : goal.returns-in-Aborted-clause-grew
returns-in-Aborted-clause-grew g c =
    let t = c.wait_round.ensures.told in wait_grew (c.args.round - 1) (last_look c.wait_round.result) (events c.args.pen.now) t.0 (events c.wait_round.new.pen) t.1 t.2

pub returns-in-Aborted-clause-no_arrivals : goal.returns-in-Aborted-clause-no_arrivals
returns-in-Aborted-clause-no_arrivals g c =
    let t = c.wait_round.ensures.told in wait_no_arrivals (c.args.round - 1) (last_look c.wait_round.result) (events c.args.pen.now) t.0 (events c.wait_round.new.pen) t.1 t.2
