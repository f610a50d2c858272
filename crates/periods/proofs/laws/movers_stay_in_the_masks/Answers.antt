use Rattle.talk.specs.Sync.{ways}
use Rattle.periods.proofs.Runs.{movers_in_masks}
use Rattle.periods.proofs.laws.movers_stay_in_the_masks.Goals as goal

pub returns : goal.returns
returns g c = movers_in_masks (ways g.M.Mind.word g.M.Mind.after_say g.M.Mind.after_hear)
