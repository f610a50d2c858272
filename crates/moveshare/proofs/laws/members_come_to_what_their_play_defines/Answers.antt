use Rattle.moveshare.proofs.Playing.{comes_to_play}
use Rattle.moveshare.proofs.laws.members_come_to_what_their_play_defines.Goals as goal

pub returns : goal.returns
returns c = comes_to_play
