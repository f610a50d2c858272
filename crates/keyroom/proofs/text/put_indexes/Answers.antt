use Rattle.std.proofs.Common.{◌++◌, arith}
use Rattle.std.specs.Prelude.{codes, decimal}
use Rattle.lists.proofs.Places.{at_or}
use Rattle.keyroom.proofs.Loops.{word_written}
use Rattle.keyroom.proofs.text.put_indexes.Goals as goal

pub loop-k-preserved : goal.loop-k-preserved
loop-k-preserved c = word_written (λ index. codes " " ++ decimal index) c.args.indexes.now c.loop-k.k 0 _ _ _ (omega arith) c.loop-k.invariant (rw (at_or c.args.indexes.now c.loop-k.k 0 c.at.result.now c.at.ensures) at c.in_ok-write.ensures.bytes)
