use Rattle.commands.proofs.MoveLaws.{sound_moves_have_words as law}
use Rattle.commands.proofs.laws.a_move_of_sound_files_has_a_word.Goals as goal

pub returns : goal.returns
returns c = law
