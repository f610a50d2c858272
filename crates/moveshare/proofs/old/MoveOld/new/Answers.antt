use Rattle.std.proofs.Common.{arith}
use Rattle.moveshare.proofs.old.MoveOld.new.Goals as goal

pub made-requires : goal.made-requires
made-requires g c =
    (omega arith, (c.requires.old, (c.requires.new, (c.requires.member, record { five = c.in_ok-grids.ensures.five; degree = c.in_ok-grids.ensures.shapes }))))
