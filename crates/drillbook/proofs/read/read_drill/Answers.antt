use Rattle.std.proofs.Common.{◌∙◌, ap}
use Rattle.std.specs.Prelude.{[], List, Result}
use Rattle.std.proofs.lemmas.Result.{err_from_is_err_and}
use Rattle.drillbook.specs.declared.order.Order.{Order}
use Rattle.drillbook.specs.declared.fault.DrillFault.{DrillFault}
use Rattle.drillbook.specs.Text.{drill_at, counted, lines_at, split, after_ok}
use Rattle.drillbook.proofs.Parts.{fails_on, fails_exactly}
use Rattle.drillbook.proofs.Lawful.{lines_lawful}
use Rattle.drillbook.proofs.read.read_drill.Goals as goal

pub returns-in_err-drill-clause-is : goal.returns-in_err-drill-clause-is
unfolding drill_at
returns-in_err-drill-clause-is c =
    let p = err_from_is_err_and c.from_residual.result c.from_residual.ensures.1 in
    rw (p.1, p.2) (fails_on c.in_err-drill.field-0.0 (lines_at c.args.setting.now 1 [] (split 10 c.args.text.now)) (counted c.args.setting.now) c.in_err-drill.ensures)

pub returns-in_err-expect_few_named-clause-is : goal.returns-in_err-expect_few_named-clause-is
unfolding drill_at
returns-in_err-expect_few_named-clause-is c =
    let p = err_from_is_err_and c.from_residual-in_err-expect_few_named.result c.from_residual-in_err-expect_few_named.ensures.1 in
    rw (p.1, p.2)
    (fails_exactly c.in_err-expect_few_named.field-0.0 (after_ok (lines_at c.args.setting.now 1 [] (split 10 c.args.text.now)) (counted c.args.setting.now))
    (ap (λ (r : Result (List Order) DrillFault). after_ok r (counted c.args.setting.now)) c.in_ok-drill.ensures ∙ c.in_err-expect_few_named.ensures))

pub returns-clause-is : goal.returns-clause-is
unfolding drill_at
returns-clause-is c = ap (λ (r : Result (List Order) DrillFault). after_ok r (counted c.args.setting.now)) c.in_ok-drill.ensures ∙ c.in_ok-expect_few_named.ensures

pub returns-clause-lawful : goal.returns-clause-lawful
returns-clause-lawful c = lines_lawful c.args.setting.now 1 [] _ (split 10 c.args.text.now) c.in_ok-drill.ensures tt
