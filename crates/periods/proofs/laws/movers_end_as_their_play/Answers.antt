use Rattle.periods.proofs.Sixth.{moves_share, moves_are_proper, movers_end, syndromes_are_heard}
use Rattle.periods.proofs.laws.movers_end_as_their_play.Goals as goal

pub returns-clause-shares : goal.returns-clause-shares
returns-clause-shares c = moves_share

pub returns-clause-ends : goal.returns-clause-ends
returns-clause-ends c = movers_end

pub returns-clause-heard : goal.returns-clause-heard
returns-clause-heard c = syndromes_are_heard

pub returns-clause-proper : goal.returns-clause-proper
returns-clause-proper c = moves_are_proper
