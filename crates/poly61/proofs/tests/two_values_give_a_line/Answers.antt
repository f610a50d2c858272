use Rattle.poly61.proofs.Newton.{one_two}
use Rattle.poly61.proofs.tests.two_values_give_a_line.Goals as goal

pub interpolate-requires : goal.interpolate-requires
interpolate-requires g c = one_two c.reduce-one.result c.reduce-two.result c.reduce-one.ensures c.reduce-two.ensures
