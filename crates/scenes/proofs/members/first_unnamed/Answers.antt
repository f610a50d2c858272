use Rattle.std.proofs.Common.{◌≡◌, refl, sym, subst, arith}
use Rattle.talk.specs.Sync.{has}
use Rattle.scenes.proofs.Circle.{NoneYet, here_found, none_next}
use Rattle.scenes.proofs.members.first_unnamed.Goals as goal

pub loop-steps-init : goal.loop-steps-init
loop-steps-init c = refl

pub loop-steps-preserved : goal.loop-steps-preserved
loop-steps-preserved c = none_next c.args.members c.args.first (has c.args.mask) c.loop-steps.steps c.loop-steps.invariant (sym c.if-not-in_mask.ensures)

pub returns-then-not-in_mask : goal.returns-then-not-in_mask
returns-then-not-in_mask c =
    sym
    (here_found c.args.members c.args.first (has c.args.mask) c.loop-steps.steps (omega (arith, c.loop-steps-test.true)) c.loop-steps.invariant
    (sym c.if-not-in_mask.ensures))

pub returns : goal.returns
returns c =
    let all : c.loop-steps.steps ≡ c.args.members = omega (arith, c.loop-steps-test.false, c.loop-steps.auto.steps-end) in
    sym (subst (NoneYet c.args.members c.args.first (has c.args.mask)) all c.loop-steps.invariant)
