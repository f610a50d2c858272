use Rattle.committee.proofs.Uncut.{uncut_have_one_status as law}
use Rattle.committee.proofs.top.one_status_where_nobody_is_cut.Goals as goal

pub returns : goal.returns
returns c = law
