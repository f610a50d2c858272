use Rattle.choices61.proofs.Move.{move_translates}
use Rattle.choices61.proofs.laws.translated_move_looks_the_same.Goals as goal

pub returns : goal.returns
returns c = move_translates
