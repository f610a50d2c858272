use Rattle.std.proofs.Common.{sym, ◌∙◌, arith}
use Rattle.viewshift.proofs.Judging.{refuse, refresh_by, refresh_setting}
use Rattle.viewshift.proofs.fitting.refresh_fits.Goals as goal

pub returns-then-not-is_same : goal.returns-then-not-is_same
returns-then-not-is_same c =
    refuse c.is_same.result c.is_same.ensures c.if-not-is_same.true (λ f. f.setting ∙ refresh_setting c.args.old.now _ _ c.receivers-members.ensures.is c.bound-bound.ensures.is ∙ sym c.refresh-setting.ensures)

pub returns-then-not-few_down : goal.returns-then-not-few_down
returns-then-not-few_down c = refuse c.few_down.result c.few_down.ensures c.if-not-few_down.true (λ f. f.few)

pub returns : goal.returns
returns c =
    refresh_by c.args.old.now c.args.phase.now c.stays.result c.requires
    (record {
      some_bad = omega (arith, c.bound-bound.ensures.is, c.bound-bound.ensures.least);
      third = omega (arith, c.bound-bound.ensures.is, c.bound-bound.ensures.third);
      most = omega (arith, c.receivers-members.ensures.is, c.receivers-members.ensures.most);
    })
    (c.is_same.ensures.0 c.if-not-is_same.false ∙ c.refresh-setting.ensures ∙ sym (refresh_setting c.args.old.now _ _ c.receivers-members.ensures.is c.bound-bound.ensures.is))
    (c.few_down.ensures.0 c.if-not-few_down.false) c.stays.ensures
