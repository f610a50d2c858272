use Rattle.talk.specs.Sync.{ways}
use Rattle.machines.proofs.Machines.{machines_are_heard}
use Rattle.machines.proofs.laws.machines_are_heard.Goals as goal

pub returns : goal.returns
returns g c = machines_are_heard (ways g.C.Mind.word g.C.Mind.after_say g.C.Mind.after_hear)
