use Rattle.keyroom.proofs.RoundTrip.{sealed_opens as law}
use Rattle.keyroom.proofs.laws.what_was_sealed_is_opened.Goals as goal

pub returns : goal.returns
returns c = law
