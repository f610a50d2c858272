use Rattle.members.proofs.Minds.{members_end}
use Rattle.members.proofs.laws.members_end_as_their_play.Goals as goal

pub returns : goal.returns
returns c = members_end
