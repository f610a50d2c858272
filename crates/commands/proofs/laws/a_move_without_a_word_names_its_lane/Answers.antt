use Rattle.commands.proofs.MoveLaws.{moves_name_their_lane as law}
use Rattle.commands.proofs.laws.a_move_without_a_word_names_its_lane.Goals as goal

pub returns : goal.returns
returns c = law
