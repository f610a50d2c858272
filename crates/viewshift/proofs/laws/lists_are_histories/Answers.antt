use Rattle.viewshift.proofs.Standing.{lists_are_history}
use Rattle.viewshift.proofs.laws.lists_are_histories.Goals as goal

pub returns : goal.returns
returns c = lists_are_history
