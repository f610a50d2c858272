use Rattle.std.proofs.Common.{◌++◌, ◌∙◌, ap, arith}
use Rattle.std.specs.Prelude.{codes, decimal}
use Rattle.algebra61.specs.Field.{Fp, zeroₚ}
use Rattle.lists.proofs.Places.{at_or}
use Rattle.keyroom.proofs.Loops.{word_written}
use Rattle.keyroom.proofs.status.put_values.Goals as goal

pub loop-k-preserved : goal.loop-k-preserved
loop-k-preserved c =
    word_written (λ value. codes " " ++ decimal value.num) c.args.values.now c.loop-k.k zeroₚ _ _ _ (omega arith) c.loop-k.invariant
    (rw (c.get-value.ensures ∙ ap (λ (x : Fp). x.num) (at_or c.args.values.now c.loop-k.k zeroₚ c.at.result.now c.at.ensures)) at c.in_ok-write.ensures.bytes)
