use Rattle.std.proofs.Common.{sym, ap, ◌∙◌, arith}
use Rattle.sharing61.specs.Count.{how_many}
use Rattle.talk.specs.Shape.{Shape}
use Rattle.viewshift.specs.Members.{behind}
use Rattle.viewshift.proofs.Judging.{refuse, refuse_by, move_by, move_setting, few_of_old}
use Rattle.viewshift.proofs.fitting.move_fits.Goals as goal

pub constants_fit-requires-clause-all : goal.constants_fit-requires-clause-all
constants_fit-requires-clause-all c =
    c.requires.all ∙ sym c.receivers-members.ensures.is ∙ sym (ap (λ (s : Shape). s.dealers) (c.is_same.ensures.0 c.if-not-is_same.false ∙ c.moving-setting.ensures))

pub returns-then-not-is_same : goal.returns-then-not-is_same
returns-then-not-is_same c =
    λ share is.
    refuse c.is_same.result c.is_same.ensures c.if-not-is_same.true
    (λ f. f.setting ∙ move_setting c.args.old.now c.args.phase.now _ _ _ _ c.receivers-members.ensures.is c.bound-bound.ensures.is c.receivers-receivers.ensures.is c.bound-new_bound.ensures.is ∙ sym c.moving-setting.ensures)

pub returns-then-count_in-bound : goal.returns-then-count_in-bound
returns-then-count_in-bound c =
    λ share is. refuse_by (λ f. absurd (omega (arith, few_of_old c.args.old.now c.args.phase.now share c.count_in.result (c.count_in.ensures ∙ ap (λ n. how_many n (behind c.args.phase.now.down 0)) c.receivers-members.ensures.is) f, c.bound-bound.ensures.is, c.if-count_in-bound.true)))

pub returns-then-not-few_down : goal.returns-then-not-few_down
returns-then-not-few_down c = λ share is. refuse c.few_down.result c.few_down.ensures c.if-not-few_down.true (λ f. f.few)

pub returns-then-not-stays : goal.returns-then-not-stays
returns-then-not-stays c = λ share is. refuse c.stays.result c.stays.ensures c.if-not-stays.true (λ f. f.stays)

pub returns : goal.returns
returns c =
    λ share is.
    move_by c.args.old.now c.args.phase.now c.args.shares.now c.count_in.result c.constants_fit.result c.requires.kept
    (record {
      some_bad = omega (arith, c.bound-bound.ensures.is, c.bound-bound.ensures.least);
      third = omega (arith, c.bound-bound.ensures.is, c.bound-bound.ensures.third);
      most = omega (arith, c.receivers-members.ensures.is, c.receivers-members.ensures.most);
    })
    (record {
      some_bad = omega (arith, c.bound-new_bound.ensures.is, c.bound-new_bound.ensures.least);
      third = omega (arith, c.bound-new_bound.ensures.is, c.bound-new_bound.ensures.third);
      most = omega (arith, c.receivers-receivers.ensures.is, c.receivers-receivers.ensures.most);
    })
    (c.is_same.ensures.0 c.if-not-is_same.false ∙ c.moving-setting.ensures
    ∙ sym (move_setting c.args.old.now c.args.phase.now _ _ _ _ c.receivers-members.ensures.is c.bound-bound.ensures.is c.receivers-receivers.ensures.is c.bound-new_bound.ensures.is))
    (c.count_in.ensures ∙ ap (λ n. how_many n (behind c.args.phase.now.down 0)) c.receivers-members.ensures.is) (omega (arith, c.bound-bound.ensures.is, c.if-count_in-bound.false)) (c.few_down.ensures.0 c.if-not-few_down.false) (c.stays.ensures.0 c.if-not-stays.false) c.constants_fit.ensures share is
