use Rattle.talk.specs.Sync.{ways}
use Rattle.machines.proofs.Machines.{minds_end, runs_are_by_machines}
use Rattle.machines.proofs.laws.minds_go_like_their_machines.Goals as goal

pub returns-clause-end : goal.returns-clause-end
returns-clause-end g c = minds_end (ways g.M.Mind.word g.M.Mind.after_say g.M.Mind.after_hear) (ways g.C.Mind.word g.C.Mind.after_say g.C.Mind.after_hear)

pub returns-clause-run : goal.returns-clause-run
returns-clause-run g c = runs_are_by_machines (ways g.M.Mind.word g.M.Mind.after_say g.M.Mind.after_hear) (ways g.C.Mind.word g.C.Mind.after_say g.C.Mind.after_hear)
