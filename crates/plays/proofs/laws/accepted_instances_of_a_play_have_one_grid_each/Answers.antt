use Rattle.plays.proofs.Proper.{plays_agree, honest_dealers_in_plays}
use Rattle.plays.proofs.laws.accepted_instances_of_a_play_have_one_grid_each.Goals as goal

pub returns : goal.returns
returns c = record { agree = plays_agree; honest = honest_dealers_in_plays }
