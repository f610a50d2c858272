use Rattle.talk.proofs.Fit.{fits_heard, fits_heard_at}
use Rattle.talk.proofs.laws.read_messages_fit.Goals as goal

pub returns-clause-run : goal.returns-clause-run
returns-clause-run c = fits_heard_at

pub returns-clause-each : goal.returns-clause-each
returns-clause-each c = fits_heard
