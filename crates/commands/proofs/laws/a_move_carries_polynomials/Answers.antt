use Rattle.commands.proofs.MoveLaws.{moves_carry_polynomials as law}
use Rattle.commands.proofs.laws.a_move_carries_polynomials.Goals as goal

pub returns : goal.returns
returns c = law
