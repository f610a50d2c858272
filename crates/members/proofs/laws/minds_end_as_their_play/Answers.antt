use Rattle.talk.specs.Sync.{ways}
use Rattle.members.proofs.Minds.{run_by_the_rules, end_as_play}
use Rattle.members.proofs.laws.minds_end_as_their_play.Goals as goal

pub returns-clause-rules : goal.returns-clause-rules
returns-clause-rules g c = run_by_the_rules (ways g.M.Mind.word g.M.Mind.after_say g.M.Mind.after_hear)

pub returns-clause-ends : goal.returns-clause-ends
returns-clause-ends g c = end_as_play (ways g.M.Mind.word g.M.Mind.after_say g.M.Mind.after_hear)
