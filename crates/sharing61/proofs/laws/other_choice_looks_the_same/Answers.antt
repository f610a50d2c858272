use Rattle.sharing61.proofs.Translation.{other_choice}
use Rattle.sharing61.proofs.laws.other_choice_looks_the_same.Goals as goal

pub returns : goal.returns
returns c = other_choice
