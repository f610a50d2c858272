use Rattle.keyroom.proofs.RoundTrip.{honest_sealed_opens as law}
use Rattle.keyroom.proofs.laws.honest_files_open_what_was_sealed.Goals as goal

pub returns : goal.returns
returns c = law
