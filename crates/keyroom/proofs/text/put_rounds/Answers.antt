use Rattle.std.proofs.Common.{arith}
use Rattle.lists.proofs.Places.{at_or}
use Rattle.keyroom.proofs.Loops.{round_written}
use Rattle.keyroom.proofs.text.put_rounds.Goals as goal

pub loop-k-preserved : goal.loop-k-preserved
loop-k-preserved c = round_written c.args.masks.now c.loop-k.k _ _ _ (omega arith) c.loop-k.invariant (rw (at_or c.args.masks.now c.loop-k.k 0 c.at.result.now c.at.ensures) at c.in_ok-writeln.ensures.bytes)
