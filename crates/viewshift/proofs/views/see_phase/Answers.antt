use Rattle.std.proofs.Common.{List, ap, ◌∙◌}
use Rattle.playback.specs.declared.phase.Phase.{Phase}
use Rattle.playback.proofs.Steps.{on_ok}
use Rattle.viewshift.specs.Listed.{phase_at}
use Rattle.viewshift.proofs.Standing.{phase_is}
use Rattle.viewshift.proofs.Keys.{few_after}
use Rattle.viewshift.proofs.Sights.{seen_more}
use Rattle.viewshift.proofs.views.see_phase.Goals as goal

pub polynomials_of-requires : goal.polynomials_of-requires
polynomials_of-requires c = few_after c.args.history.now.phases c.args.place c.args.shares.now c.requires.left

pub returns : goal.returns
returns c =
    on_ok c.push_exposed.result
    (λ pushed.
    seen_more c.args.history.now.phases c.args.history.now.exposed c.args.place c.receivers-members.result c.mask_after-mask.result c.args.played.now c.args.shares.now c.in_ok-polynomials.polynomials c.args.views.now
    (record { posts = c.push_all.new.list; rings = c.push_all-2.new.list; shares = c.push_exposed.new.list })
    c.requires.played c.requires.left c.in_ok-polynomials.ensures
    (c.receivers-members.ensures.is
    ∙ ap (λ (p : Phase). p.setting.receivers) (phase_is c.phases.result.now c.args.place c.at.result.now c.at.ensures)
    ∙ ap (λ (l : List Phase). (phase_at l c.args.place).setting.receivers) c.phases.ensures.is)
    c.mask_after-mask.ensures c.requires.before c.in_ok-push_all.ensures c.in_ok-push_all-2.ensures pushed)
    c.push_exposed.ensures
