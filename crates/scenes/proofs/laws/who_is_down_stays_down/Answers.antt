use Rattle.scenes.proofs.Following.{scenes_follow}
use Rattle.scenes.proofs.laws.who_is_down_stays_down.Goals as goal

pub returns : goal.returns
returns c = λ members bound number phase size bounded. scenes_follow members bound number phase
