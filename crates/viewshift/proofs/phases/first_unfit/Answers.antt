use Rattle.viewshift.proofs.Standing.{each_with}
use Rattle.viewshift.proofs.phases.first_unfit.Goals as goal

pub play_at-requires-clause-fits : goal.play_at-requires-clause-fits
play_at-requires-clause-fits c = each_with c.args.phases.now c.loop-place.place c.loop-place.invariant.each (c.fits_at.ensures.0 c.if-not-fits_at.false)
