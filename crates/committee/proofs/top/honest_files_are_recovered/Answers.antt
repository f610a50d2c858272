use Rattle.committee.proofs.OneMeaning.{honest_recover as law}
use Rattle.committee.proofs.top.honest_files_are_recovered.Goals as goal

pub returns : goal.returns
returns c = law
