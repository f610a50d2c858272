use Rattle.moveshare.proofs.Going.{minds_go}
use Rattle.moveshare.proofs.laws.minds_of_a_move_go_like_movers.Goals as goal

pub returns : goal.returns
returns c = minds_go
