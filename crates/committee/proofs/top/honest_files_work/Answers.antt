use Rattle.committee.proofs.OneMeaning.{honest_document as law}
use Rattle.committee.proofs.top.honest_files_work.Goals as goal

pub returns : goal.returns
returns c = law
