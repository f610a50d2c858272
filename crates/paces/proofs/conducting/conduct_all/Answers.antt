use Rattle.paces.proofs.conducting.conduct_all.Goals as goal

pub loop-row-preserved : goal.loop-row-preserved
loop-row-preserved g c = record {
  warden = c.conduct_round.ensures.warden;
  paced = λ first o. c.conduct_round.ensures.paced first (c.loop-row.invariant.paced first o);
}
