use Rattle.std.proofs.Common.{length, ap, arith}
use Rattle.std.proofs.lemmas.Result.{err_from_is_err_and}
use Rattle.keyroom.specs.Changes.{change_of}
use Rattle.keyroom.proofs.Changes.{made_more, part_way}
use Rattle.keyroom.proofs.plan.make_all.Goals as goal

pub returns-in_err-make-clause-part : goal.returns-in_err-make-clause-part
returns-in_err-make-clause-part g c =
    let p = err_from_is_err_and c.from_residual.result c.from_residual.ensures.1 in
    rw p.1 (part_way change_of c.args.changes.now c.loop-change.change-index c.change-item.result (omega arith) c.change-item.is c.in_err-make.field-0.0 _ _ _ c.loop-change.invariant.held c.in_err-make.ensures.made)

pub loop-change-preserved : goal.loop-change-preserved
loop-change-preserved g c = record {
  held = made_more change_of c.args.changes.now c.loop-change.change-index c.change-item.result (omega arith) c.change-item.is _ _ _ c.loop-change.invariant.held c.in_ok-make.ensures.made;
  later = omega (arith, c.loop-change.invariant.later, c.in_ok-make.ensures.cause.later);
  calm = λ is. c.in_ok-make.ensures.calm (c.loop-change.invariant.calm is);
  untouched = λ e. absurd (omega (arith, ap length e));
}
