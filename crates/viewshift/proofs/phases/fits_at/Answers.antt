use Rattle.std.proofs.Common.{◌-◌, arith}
use Rattle.viewshift.proofs.Standing.{phase_is, refused, first_at, next_at, all_there}
use Rattle.viewshift.proofs.phases.fits_at.Goals as goal

pub next_fits-requires-clause-all : goal.next_fits-requires-clause-all
next_fits-requires-clause-all c =
    all_there c.args.phases.now c.args.place c.at.result.now c.args.shares.now (omega (arith, c.if-place-eq0.false)) (phase_is c.args.phases.now (c.args.place - 1) c.at.result.now c.at.ensures) c.requires.before

pub returns-then-not-is_kept : goal.returns-then-not-is_kept
returns-then-not-is_kept c =
    refused c.args.phases.now c.args.place c.at-phase.result.now c.is_kept.result (phase_is c.args.phases.now c.args.place c.at-phase.result.now c.at-phase.ensures) c.is_kept.ensures c.if-not-is_kept.true

pub returns-then-place-eq0 : goal.returns-then-place-eq0
returns-then-place-eq0 c =
    first_at c.args.phases.now c.args.place c.at-phase.result.now c.first_fits.result c.if-place-eq0.true (phase_is c.args.phases.now c.args.place c.at-phase.result.now c.at-phase.ensures) (c.is_kept.ensures.0 c.if-not-is_kept.false)
    c.first_fits.ensures

pub returns-else-place-eq0 : goal.returns-else-place-eq0
returns-else-place-eq0 c =
    next_at c.args.phases.now c.args.place c.at.result.now c.at-phase.result.now c.args.shares.now c.next_fits.result (omega (arith, c.if-place-eq0.false)) (phase_is c.args.phases.now (c.args.place - 1) c.at.result.now c.at.ensures)
    (phase_is c.args.phases.now c.args.place c.at-phase.result.now c.at-phase.ensures) (c.is_kept.ensures.0 c.if-not-is_kept.false) c.requires.before c.next_fits.ensures
