use Rattle.poly61.proofs.Newton.{one_two}
use Rattle.poly61.proofs.tests.weights_and_vanisher_at_zero.Goals as goal

pub weights_at_zero-requires : goal.weights_at_zero-requires
weights_at_zero-requires g c = one_two c.reduce-one.result c.reduce-two.result c.reduce-one.ensures c.reduce-two.ensures
