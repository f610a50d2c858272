use Rattle.std.proofs.Common.{[], sym, ◌∙◌, subst, arith}
use Rattle.algebra61.specs.Field.{Fp}
use Rattle.std.specs.Prelude.{List}
use Rattle.talk.specs.Shape.{Shape}
use Rattle.lists.proofs.Places.{at_or}
use Rattle.moveshare.specs.Lanes.{IsFirstWithout}
use Rattle.moveshare.proofs.Answering.{errors_stop}
use Rattle.moveshare.proofs.lanes.errors_of.Goals as goal

pub returns-in-Err-NoError : goal.returns-in-Err-NoError
returns-in-Err-NoError c =
    let s : Shape = c.args.setting.now in
    subst (λ (z : List Fp). IsFirstWithout s c.args.syndromes.now c.loop-lane.lane z) (c.as_slice.ensures ∙ sym c.in_ok-syndrome-in-Err-NoError.ensures)
    (errors_stop s c.args.syndromes.now c.loop-lane.lanes c.loop-lane.lane c.dealers-dealers.result c.old_bound-bound.result c.as_slice.result.now c.in-Err-NoError.field-0
    (omega (arith, c.loop-lane-test.true)) c.loop-lane.invariant c.dealers-dealers.ensures.is c.old_bound-bound.ensures.is
    (c.as_slice.ensures ∙ at_or c.args.syndromes.now c.loop-lane.lane [] c.at-syndrome.result.now c.at-syndrome.ensures) c.in-Err-NoError.field-0-is c.in-Err-NoError.ensures)
