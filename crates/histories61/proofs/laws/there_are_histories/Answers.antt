use Rattle.histories61.proofs.Witness.{example_is_history}
use Rattle.histories61.proofs.laws.there_are_histories.Goals as goal

pub returns : goal.returns
returns c = example_is_history
