use Rattle.talk.specs.Sync.{ways}
use Rattle.periods.proofs.Runs.{run_by_movers, end_as_move}
use Rattle.periods.proofs.laws.minds_end_as_their_move.Goals as goal

pub returns-clause-words : goal.returns-clause-words
returns-clause-words g c = run_by_movers (ways g.M.Mind.word g.M.Mind.after_say g.M.Mind.after_hear)

pub returns-clause-ends : goal.returns-clause-ends
returns-clause-ends g c = end_as_move (ways g.M.Mind.word g.M.Mind.after_say g.M.Mind.after_hear)
