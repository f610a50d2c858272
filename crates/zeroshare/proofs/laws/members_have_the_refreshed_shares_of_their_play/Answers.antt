use Rattle.zeroshare.proofs.Ends.{ends_refreshed}
use Rattle.zeroshare.proofs.laws.members_have_the_refreshed_shares_of_their_play.Goals as goal

pub returns : goal.returns
returns c = ends_refreshed
