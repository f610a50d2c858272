use Rattle.std.proofs.Common.{◌+◌, length, sym, ap, ◌∙◌}
use Rattle.scenes.proofs.Filling.{scenes_count}
use Rattle.playbill.proofs.Sides.{sides_are}
use Rattle.playbill.proofs.tests.printed.Goals as goal

pub rehearse_text-requires-clause-counts : goal.rehearse_text-requires-clause-counts
rehearse_text-requires-clause-counts c =
    let committee = c.args.committee in
    ap length c.in_ok-accepted.ensures ∙ c.requires.counts
    ∙ sym (scenes_count committee.members committee.bound c.args.number (c.args.periods + 1) c.as_slice.result.now (c.as_slice.ensures.value ∙ c.in_ok-scenes.ensures))

pub rehearse_text-requires-clause-sides : goal.rehearse_text-requires-clause-sides
rehearse_text-requires-clause-sides c =
    let committee = c.args.committee in
    sides_are committee.members committee.bound c.args.number (c.args.periods + 1) c.as_slice.result.now c.requires.size c.requires.bound (c.as_slice.ensures.value ∙ c.in_ok-scenes.ensures)
