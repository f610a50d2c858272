use Rattle.algebra61.proofs.Ring.{sub_is}
use Rattle.field61.proofs.Fe.sub.Goals as goal

pub returns : goal.returns
returns c = rw (sub_is, ← c.neg.ensures) c.add.ensures
