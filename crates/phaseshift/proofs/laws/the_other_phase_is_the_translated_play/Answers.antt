use Rattle.phaseshift.proofs.Translated.{other_phase_is_translated}
use Rattle.phaseshift.proofs.laws.the_other_phase_is_the_translated_play.Goals as goal

pub returns : goal.returns
returns c = other_phase_is_translated
