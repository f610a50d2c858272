use Rattle.std.proofs.Common.{◌∙◌, length, arith}
use Rattle.std.proofs.lemmas.Result.{err_from_is_err_and}
use Rattle.commands.specs.Late.{down_after}
use Rattle.commands.specs.Phase.{marked}
use Rattle.commands.proofs.Downs.{agree_old, agree_new, marks_still, old_refused, both_are}
use Rattle.commands.proofs.lateness.new_down_after.Goals as goal

pub returns-in_err-_old-clause-few : goal.returns-in_err-_old-clause-few
returns-in_err-_old-clause-few c =
    let p = err_from_is_err_and c.from_residual-in_err-_old.result c.from_residual-in_err-_old.ensures.1 in
    rw (p.1, p.2) (λ refusal. old_refused c.args.old.members c.args.old.bound c.args.new.members c.args.new.bound (down_after (marked c.args.before.now) c.args.masks.now) (marked c.deref.result.now) c.in_err-_old.field-0.0
    (agree_old (down_after (marked c.args.before.now) c.args.masks.now) (length c.args.before.now) c.args.old.members c.args.new.members (omega (arith, c.requires.all)) c.deref.result.now (c.deref.ensures.value ∙ c.in_ok-down.ensures))
    (c.in_err-_old.ensures.gives refusal))

pub returns-in_err-_new-clause-few : goal.returns-in_err-_new-clause-few
returns-in_err-_new-clause-few c =
    let p = err_from_is_err_and c.from_residual-in_err-_new.result c.from_residual-in_err-_new.ensures.1 in
    rw (p.1, p.2) (λ refusal. both_are c.args.old.members c.args.old.bound c.args.new.members c.args.new.bound c.in_ok-_old._old (down_after (marked c.args.before.now) c.args.masks.now) (marked c.deref.result.now) (marked c.deref-3.result.now) _
    (agree_old (down_after (marked c.args.before.now) c.args.masks.now) (length c.args.before.now) c.args.old.members c.args.new.members (omega (arith, c.requires.all)) c.deref.result.now (c.deref.ensures.value ∙ c.in_ok-down.ensures))
    (agree_new (down_after (marked c.args.before.now) c.args.masks.now) (length c.args.before.now) c.args.old.members c.args.new.members (omega (arith, c.requires.all)) c.deref-3.result.now
    (c.deref-3.ensures.value ∙ marks_still (down_after (marked c.args.before.now) c.args.masks.now) (length c.args.before.now) c.args.old.members c.args.new.members (omega (arith, c.requires.all)) c.deref-2.result.now c.in_ok-behind.behind.items (c.deref-2.ensures.value ∙ c.in_ok-down.ensures) c.in_ok-behind.ensures))
    c.in_ok-_old.ensures.gives (c.in_err-_new.ensures.gives refusal))

pub returns-clause-down : goal.returns-clause-down
returns-clause-down c =
    marks_still (down_after (marked c.args.before.now) c.args.masks.now) (length c.args.before.now) c.args.old.members c.args.new.members (omega (arith, c.requires.all)) c.deref-2.result.now c.in_ok-behind.behind.items (c.deref-2.ensures.value ∙ c.in_ok-down.ensures) c.in_ok-behind.ensures

pub returns-clause-left : goal.returns-clause-left
returns-clause-left c = (
  c.in_ok-_new._new,
  both_are c.args.old.members c.args.old.bound c.args.new.members c.args.new.bound c.in_ok-_old._old (down_after (marked c.args.before.now) c.args.masks.now) (marked c.deref.result.now) (marked c.deref-3.result.now) _
      (agree_old (down_after (marked c.args.before.now) c.args.masks.now) (length c.args.before.now) c.args.old.members c.args.new.members (omega (arith, c.requires.all)) c.deref.result.now (c.deref.ensures.value ∙ c.in_ok-down.ensures))
      (agree_new (down_after (marked c.args.before.now) c.args.masks.now) (length c.args.before.now) c.args.old.members c.args.new.members (omega (arith, c.requires.all)) c.deref-3.result.now
      (c.deref-3.ensures.value ∙ marks_still (down_after (marked c.args.before.now) c.args.masks.now) (length c.args.before.now) c.args.old.members c.args.new.members (omega (arith, c.requires.all)) c.deref-2.result.now c.in_ok-behind.behind.items (c.deref-2.ensures.value ∙ c.in_ok-down.ensures) c.in_ok-behind.ensures))
      c.in_ok-_old.ensures.gives c.in_ok-_new.ensures.gives,
)
