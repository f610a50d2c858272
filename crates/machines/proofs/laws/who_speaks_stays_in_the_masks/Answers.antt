use Rattle.talk.specs.Sync.{ways}
use Rattle.machines.proofs.Machines.{speakers_are_in_masks}
use Rattle.machines.proofs.laws.who_speaks_stays_in_the_masks.Goals as goal

pub returns : goal.returns
returns g c = speakers_are_in_masks (ways g.M.Mind.word g.M.Mind.after_say g.M.Mind.after_hear) (ways g.C.Mind.word g.C.Mind.after_say g.C.Mind.after_hear)
