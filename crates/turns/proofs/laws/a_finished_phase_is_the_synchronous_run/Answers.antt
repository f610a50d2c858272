use Rattle.talk.specs.Sync.{ways}
use Rattle.turns.proofs.Phase.{finished_same, finished_allowed, finished_posts}
use Rattle.turns.proofs.laws.a_finished_phase_is_the_synchronous_run.Goals as goal

pub returns-clause-minds : goal.returns-clause-minds
returns-clause-minds g c = finished_same (ways g.M.Mind.word g.M.Mind.after_say g.M.Mind.after_hear)

pub returns-clause-masks : goal.returns-clause-masks
returns-clause-masks g c = finished_allowed (ways g.M.Mind.word g.M.Mind.after_say g.M.Mind.after_hear)

pub returns-clause-posts : goal.returns-clause-posts
returns-clause-posts g c = finished_posts (ways g.M.Mind.word g.M.Mind.after_say g.M.Mind.after_hear)
