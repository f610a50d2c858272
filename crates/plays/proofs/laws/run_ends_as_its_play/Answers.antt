use Rattle.plays.proofs.Rounds.{run_is_play, run_makes_play}
use Rattle.plays.proofs.Heard.{run_is_heard}
use Rattle.plays.proofs.laws.run_ends_as_its_play.Goals as goal

pub returns : goal.returns
returns c = record { ends = run_is_play; play = run_makes_play; heard = run_is_heard }
