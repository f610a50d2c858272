use Rattle.histories61.proofs.Playing.{heard_to_its_end}
use Rattle.histories61.proofs.laws.a_play_is_heard_to_its_end.Goals as goal

pub returns : goal.returns
returns c = heard_to_its_end
