use Rattle.std.proofs.Common.{length}
use Rattle.crews.proofs.Joined.{joined_ok, barred_of, few_of}
use Rattle.crews.proofs.starts.run_in.Goals as goal

pub returns-clause-each : goal.returns-clause-each
returns-clause-each g c =
    joined_ok g.M.Member.attends c.args.members.items c.start_rest-stop.new.started.items c.outcome_of.result c.start_rest-stop.result c.join_all-joined.result.complete c.join_all-joined.result.attended.items
    c.outcome_of.ensures.ok c.start_rest-stop.ensures.each c.join_all-joined.ensures.each

pub returns-clause-barred : goal.returns-clause-barred
returns-clause-barred g c = barred_of c.outcome_of.result c.start_rest-stop.result c.args.plan.barred c.outcome_of.ensures.err c.start_rest-stop.ensures.barred

pub returns-clause-few : goal.returns-clause-few
returns-clause-few g c = few_of c.outcome_of.result (length c.join_all-joined.result.attended.items) (length c.start_rest-stop.new.started.items) (length c.args.members.items) c.outcome_of.ensures.few c.join_all-joined.ensures.few c.start_rest-stop.ensures.few
