use Rattle.talk.specs.Sync.{ways}
use Rattle.members.proofs.Minds.{honest_are_in_masks}
use Rattle.members.proofs.laws.minds_stay_in_the_masks.Goals as goal

pub returns : goal.returns
returns g c = honest_are_in_masks (ways g.M.Mind.word g.M.Mind.after_say g.M.Mind.after_hear)
