use Rattle.std.proofs.Common.{arith}
use Rattle.keyroom.proofs.Loops.{hex_more}
use Rattle.keyroom.proofs.text.put_hex.Goals as goal

pub loop-byte-preserved : goal.loop-byte-preserved
loop-byte-preserved c =
    hex_more c.args.bytes.now c.loop-byte.byte-index _ _ _ (omega arith) (c.fits-bytes c.loop-byte.byte-index) c.loop-byte.invariant
    (rw (c.laid_out.ensures, c.in_radix.ensures) at c.in_ok-write.ensures.bytes)
