use Rattle.hearsay.proofs.Record.{record_is_play, record_has_few_down, record_ends_alike}
use Rattle.hearsay.proofs.laws.the_record_of_a_play_ends_as_the_play.Goals as goal

pub returns-clause-play : goal.returns-clause-play
returns-clause-play c = record_is_play

pub returns-clause-few : goal.returns-clause-few
returns-clause-few c = record_has_few_down

pub returns-clause-ends : goal.returns-clause-ends
returns-clause-ends c = record_ends_alike
