use Rattle.std.proofs.Common.{sym, ◌∙◌, arith}
use Rattle.viewshift.proofs.Judging.{refuse, first_by, create_setting}
use Rattle.viewshift.proofs.fitting.create_fits.Goals as goal

pub returns-then-not-is_same : goal.returns-then-not-is_same
returns-then-not-is_same c =
    refuse c.is_same.result c.is_same.ensures c.if-not-is_same.true (λ f. f.setting ∙ create_setting c.args.phase.now _ _ c.receivers-members.ensures.is c.bound-bound.ensures.is ∙ sym c.create-setting.ensures)

pub returns : goal.returns
returns c =
    first_by c.args.phase.now c.few_down.result c.requires
    (record {
      some_bad = omega (arith, c.bound-bound.ensures.is, c.bound-bound.ensures.least);
      third = omega (arith, c.bound-bound.ensures.is, c.bound-bound.ensures.third);
      most = omega (arith, c.receivers-members.ensures.is, c.receivers-members.ensures.most);
    })
    (c.is_same.ensures.0 c.if-not-is_same.false ∙ c.create-setting.ensures ∙ sym (create_setting c.args.phase.now _ _ c.receivers-members.ensures.is c.bound-bound.ensures.is))
    c.few_down.ensures
