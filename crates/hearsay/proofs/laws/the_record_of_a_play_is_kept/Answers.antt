use Rattle.hearsay.proofs.Record.{record_is_kept}
use Rattle.hearsay.proofs.laws.the_record_of_a_play_is_kept.Goals as goal

pub returns : goal.returns
returns c = record_is_kept
