use Rattle.viewshift.proofs.Judging.{refuse}
use Rattle.viewshift.proofs.Standing.{phase_is}
use Rattle.viewshift.proofs.Naming.{named_at, mask_by}
use Rattle.viewshift.proofs.masks.mask_fits.Goals as goal

pub returns-then-not-names_few : goal.returns-then-not-names_few
returns-then-not-names_few c =
    refuse c.names_few.result
    (named_at c.args.phases.now c.args.exposed.now c.args.place c.at.result.now c.mask_at-mask.result c.names_few.result (phase_is c.args.phases.now c.args.place c.at.result.now c.at.ensures) c.mask_at-mask.ensures c.names_few.ensures)
    c.if-not-names_few.true (λ f. f.names_few)

pub returns : goal.returns
returns c =
    mask_by c.args.phases.now c.args.exposed.now c.args.place c.mask_at-mask.result c.has_next.result c.mask_at-mask.ensures
    ((named_at c.args.phases.now c.args.exposed.now c.args.place c.at.result.now c.mask_at-mask.result c.names_few.result (phase_is c.args.phases.now c.args.place c.at.result.now c.at.ensures) c.mask_at-mask.ensures c.names_few.ensures).0 c.if-not-names_few.false)
    c.has_next.ensures
