use Rattle.members.proofs.Sums.{done_is_play}
use Rattle.members.proofs.laws.members_have_the_shares_of_their_play.Goals as goal

pub returns : goal.returns
returns c = done_is_play
