use Rattle.keyroom.proofs.RoundTrip.{opens_only as law}
use Rattle.keyroom.proofs.laws.a_box_is_opened.Goals as goal

pub returns : goal.returns
returns c = law
